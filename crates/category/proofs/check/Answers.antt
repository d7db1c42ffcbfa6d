-- `category::check` meets its contract. Assumes nothing.
use mathlib.Core.Path.{◌∙◌}
use Rattle.std.proofs.lemmas.Result.{err_from_is_err_and}
use Rattle.category.proofs.Answers.{check_first, check_second}
use Rattle.category.proofs.check.Goals as goal

pub returns-in_err-check_file : goal.returns-in_err-check_file
returns-in_err-check_file c =
    let p = err_from_is_err_and c.from_residual.result c.from_residual.ensures.1 in
    rw (p.1, p.2) (check_first _ _ _ c.in_err-check_file.ensures)

pub returns : goal.returns
returns c = c.check_file-2.ensures ∙ check_second _ _ _ c.in_ok-check_file.ensures
