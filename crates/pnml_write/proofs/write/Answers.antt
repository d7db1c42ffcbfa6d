-- `pnml_write::write` meets its contract. Assumes nothing.
use native.Mathlib.Omega.{arith}
use Rattle.net.specs.Table.{transitions}
use Rattle.std.proofs.lemmas.Result.{err_from_is_err_and}
use Rattle.pnml_write.proofs.Answers.{count_few, places_few, table-sized, write_refused, write_short, write_whole, write_ample}
use Rattle.pnml_write.proofs.write.Goals as goal

pub returns-in_err-check_load : goal.returns-in_err-check_load
returns-in_err-check_load c =
    let p = err_from_is_err_and c.from_residual.result c.from_residual.ensures.1 in
    rw (p.1, p.2) (write_refused _ _ _ _ _ c.in_err-check_load.ensures)

pub overflow_mul-net : goal.overflow_mul-net
overflow_mul-net c = omega (arith, count_few _ (table-sized _ _ _ c.in_ok-check_load.ensures))

pub overflow_add-places-2 : goal.overflow_add-places-2
overflow_add-places-2 c = omega (arith, count_few _ (table-sized _ _ _ c.in_ok-check_load.ensures))

pub text-requires : goal.text-requires
text-requires c =
    let good = c.in_ok-check_load.ensures in
    (places_few _ _ _ good, table-sized _ _ _ good)

pub returns-then-places-net : goal.returns-then-places-net
unfolding transitions
returns-then-places-net c =
    let good = c.in_ok-check_load.ensures in
    write_ample _ _ _ _ good c.if-places-net.true c.text.ensures

pub text_length-requires : goal.text_length-requires
text_length-requires c =
    let good = c.in_ok-check_load.ensures in
    (places_few _ _ _ good, table-sized _ _ _ good)

pub returns-then-room-text_length : goal.returns-then-room-text_length
returns-then-room-text_length c =
    let good = c.in_ok-check_load.ensures in
    write_short _ _ _ _ good _ c.text_length.ensures c.if-room-text_length.true

pub text-requires-2 : goal.text-requires-2
text-requires-2 c =
    let good = c.in_ok-check_load.ensures in
    (places_few _ _ _ good, table-sized _ _ _ good)

pub returns : goal.returns
returns c =
    let good = c.in_ok-check_load.ensures in
    write_whole _ _ _ _ good c.text_length.ensures c.if-room-text_length.false c.text-2.ensures
