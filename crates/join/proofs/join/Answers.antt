-- `join::join` meets its contract. Assumes nothing.
use mathlib.Core.Path.{sym}
use Rattle.std.proofs.lemmas.Result.{err_from_is_err_and}
use Rattle.net.specs.Answer.{checked}
use Rattle.join.proofs.Answers.{refused_first, refused_second}
use Rattle.join.proofs.join.Goals as goal

pub returns-in_err-check_load : goal.returns-in_err-check_load
unfolding checked
returns-in_err-check_load c =
    let p = err_from_is_err_and c.from_residual.result c.from_residual.ensures.1 in
    rw (p.1, p.2) (refused_first _ _ _ _ c.in_err-check_load.ensures)

pub returns-in_err-check_load-2 : goal.returns-in_err-check_load-2
unfolding checked
returns-in_err-check_load-2 c =
    let p = err_from_is_err_and c.from_residual-in_err-check_load-2.result c.from_residual-in_err-check_load-2.ensures.1 in
    rw (p.1, p.2) (refused_second _ _ _ (sym c.in_ok-check_load.ensures) _ c.in_err-check_load-2.ensures)

pub join_loaded-requires : goal.join_loaded-requires
unfolding checked
join_loaded-requires c = (sym c.in_ok-check_load.ensures, sym c.in_ok-check_load-2.ensures)
