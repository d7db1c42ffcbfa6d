-- `category_convert::convert` meets its contract. Assumes nothing.
use Rattle.std.proofs.lemmas.Result.{err_from_is_err_and}
use Rattle.category_convert.proofs.Answers.{passed, refused_table, refused_short, converts}
use Rattle.category_convert.proofs.convert.Goals as goal

pub returns-in_err-check_file : goal.returns-in_err-check_file
returns-in_err-check_file c =
    let p = err_from_is_err_and c.from_residual.result c.from_residual.ensures.1 in
    rw (p.1, p.2) (refused_table _ _ _ c.in_err-check_file.ensures)

pub returns-then-room-file : goal.returns-then-room-file
returns-then-room-file c = refused_short _ (passed _ _ c.in_ok-check_file.ensures) _ c.if-room-file.true

pub put_records-requires : goal.put_records-requires
put_records-requires c = (passed _ _ c.in_ok-check_file.ensures, c.if-room-file.false)

pub returns : goal.returns
returns c =
    let done = c.put_records.ensures in
    converts _ (passed _ _ c.in_ok-check_file.ensures) _ _ c.if-room-file.false done.0 done.1
