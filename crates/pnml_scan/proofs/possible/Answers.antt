-- `pnml_scan::possible` meets its contract. The invariant: the bounds divided so far give the same answer. Assumes nothing.
use Rattle.pnml_scan.proofs.Numbers.{looked_none, looked_within, looked_zero, looked_high, looked_more}
use Rattle.pnml_scan.proofs.possible.Goals as goal

pub loop-high-init : goal.loop-high-init
loop-high-init c = looked_none _ _ _

pub returns-then-low-v : goal.returns-then-low-v
returns-then-low-v c = looked_within _ _ _ _ _ c.loop-high.invariant c.if-low-v.true c.loop-high-test.true

pub returns-then-v-eq0 : goal.returns-then-v-eq0
returns-then-v-eq0 c = looked_zero _ _ _ _ _ c.loop-high.invariant c.if-low-v.false c.if-v-eq0.true

pub loop-high-preserved : goal.loop-high-preserved
loop-high-preserved c =
    looked_more _ _ _ _ _ c.loop-high.invariant c.if-low-v.false c.if-v-eq0.false c.loop-high-test.true

pub returns : goal.returns
returns c = looked_high _ _ _ _ _ c.loop-high.invariant c.loop-high-test.false
