-- `pnml_read::refusal_numbers` meets its contract. Assumes nothing.
use Rattle.pnml_read.specs.Answer.{number_of, place_of}
use Rattle.pnml_read.proofs.refusal_numbers.Goals as goal

pub returns-in-Shape : goal.returns-in-Shape
unfolding number_of place_of
returns-in-Shape c = simp c.in-Shape.is c.refused.ensures

pub returns-in-Places : goal.returns-in-Places
unfolding number_of place_of
returns-in-Places c = simp c.in-Places.is c.refused-in-Places.ensures

pub returns-in-Transitions : goal.returns-in-Transitions
unfolding number_of place_of
returns-in-Transitions c = simp c.in-Transitions.is c.refused-in-Transitions.ensures

pub returns-in-Short : goal.returns-in-Short
unfolding number_of place_of
returns-in-Short c = simp c.in-Short.is c.refused-in-Short.ensures
