-- `pnml_read::read_numbers` meets its contract. Assumes nothing.
use mathlib.Core.Path.{refl}
use Rattle.pnml_read.specs.Answer.{number_of, place_of, found_of}
use Rattle.pnml_read.proofs.read_numbers.Goals as goal

pub returns-in-Ok : goal.returns-in-Ok
unfolding number_of place_of found_of
returns-in-Ok c = simp c.in-Ok.is (refl, refl, refl, refl, refl)

pub returns-in-Err : goal.returns-in-Err
unfolding found_of
returns-in-Err c = let e = c.refusal_numbers.ensures in simp (c.in-Err.is, e) (refl, refl, refl, refl, refl)
