-- `join::join_numbers` meets its contract. Assumes nothing.
use mathlib.Core.Path.{refl}
use Rattle.join.specs.Result.{numbers_of}
use Rattle.join.proofs.join_numbers.Goals as goal

pub returns-in-Ok : goal.returns-in-Ok
unfolding numbers_of
returns-in-Ok c = simp c.in-Ok.is refl

pub returns-in-Err : goal.returns-in-Err
unfolding numbers_of
returns-in-Err c = simp (c.in-Err.is, c.refused.ensures) refl
