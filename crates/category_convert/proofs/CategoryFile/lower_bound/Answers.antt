-- `category_convert::CategoryFile::lower_bound` meets its contract. Assumes nothing.
use native.Mathlib.Omega.{arith}
use borrow.Author.Rules.{rules}
use Rattle.category_convert.proofs.Prefix.{prefix_rising, prefix_le}
use Rattle.category_convert.proofs.Bounds.{narrowed_none, narrowed_low, narrowed_high, narrowed_done}
use Rattle.category_convert.proofs.CategoryFile.lower_bound.Goals as goal

pub loop-low-init : goal.loop-low-init
loop-low-init c = narrowed_none _ _ _

pub overflow_add-middle : goal.overflow_add-middle
overflow_add-middle c = omega (arith, prefix_le _ _ c.args.self.now.measured)

pub new-requires : goal.new-requires
new-requires c = omega (arith, prefix_le _ _ c.args.self.now.measured)

pub loop-low-preserved-then-action : goal.loop-low-preserved-then-action
loop-low-preserved-then-action c =
    let n = c.new.ensures in
    let a = rw (n.0, n.1) at c.action.ensures in
    narrowed_low (prefix_rising _ _ c.args.self.now.measured) c.loop-low.invariant _ (search rules) (omega (arith, a))

pub loop-low-preserved : goal.loop-low-preserved
loop-low-preserved c =
    let n = c.new.ensures in
    let a = rw (n.0, n.1) at c.action.ensures in
    narrowed_high
    (prefix_rising _ _ c.args.self.now.measured)
    c.loop-low.invariant
    _
    (search rules)
    (search rules)
    (omega (arith, a))

pub returns : goal.returns
returns c = narrowed_done c.loop-low.invariant (search rules)
