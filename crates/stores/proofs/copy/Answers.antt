-- `stores::copy` meets its contract. The loop's invariant: the first k bytes are stored. Assumes nothing.
use native.Mathlib.Omega.{arith}
use Rattle.stores.proofs.Copies.{copied_none, copied_more, copied_all}
use Rattle.stores.proofs.copy.Goals as goal

pub loop-k-init : goal.loop-k-init
loop-k-init c = copied_none _ _ _ _

pub loop-k-preserved : goal.loop-k-preserved
loop-k-preserved c = copied_more c.loop-k.invariant (omega (arith, c.loop-k-test.true, c.requires.0))

pub returns : goal.returns
returns c = copied_all c.loop-k.invariant (omega (arith, c.loop-k-test.false)) (omega (arith, c.loop-k-test.false))
