-- `pnml_write::written_numbers` meets its contract. Assumes nothing.
use mathlib.Core.Path.{refl}
use Rattle.pnml_write.specs.Answer.{found_of, length_of}
use Rattle.pnml_write.proofs.written_numbers.Goals as goal

pub returns-in-Ok : goal.returns-in-Ok
unfolding found_of length_of
returns-in-Ok c = simp c.in-Ok.is (refl, refl, refl)

pub returns-in-Err : goal.returns-in-Err
unfolding found_of length_of
returns-in-Err c = simp c.in-Err.is c.refused_numbers.ensures
