-- `pnml_put::word` meets its contract. The invariant: the first i bytes of the word are put. Assumes nothing.
use native.Mathlib.Nat.{le_antisymm}
use native.Mathlib.Omega.{arith}
use Rattle.pnml_put.proofs.Puts.{nothing, word_more, word_all}
use Rattle.pnml_put.proofs.word.Goals as goal

pub loop-i-init : goal.loop-i-init
loop-i-init c = nothing _ _

pub loop-i-preserved : goal.loop-i-preserved
loop-i-preserved c = word_more _ _ (omega arith) c.loop-i.invariant

pub returns : goal.returns
returns c = word_all _ _ (le_antisymm c.loop-i.auto.i-end c.loop-i-test.false) c.loop-i.invariant
