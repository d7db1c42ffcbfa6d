-- `join::refused` meets its contract. Assumes nothing.
use mathlib.Core.Path.{refl}
use Rattle.join.specs.Result.{fault_of}
use Rattle.join.proofs.refused.Goals as goal

pub returns-in-Half : goal.returns-in-Half
unfolding fault_of
returns-in-Half c =
    let said = c.refusal_numbers-said.ensures in
    simp (said.0, said.1, c.in-Half.is) refl

pub returns-in-Large : goal.returns-in-Large
unfolding fault_of
returns-in-Large c = simp c.in-Large.is refl

pub returns-in-Short : goal.returns-in-Short
unfolding fault_of
returns-in-Short c = simp c.in-Short.is refl
