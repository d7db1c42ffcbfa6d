-- `category_convert::CategoryFile::lower_bound` meets its contract. The loop's invariant: records before `low` have actions below the given
-- one, and those from `high` on have not. Assumes nothing.
use Prim.Native.Nat.{◌-◌}
use Rattle.category_convert.proofs.Bounds.{Narrowed}
use Rattle.category_convert.proofs.CategoryFile.lower_bound.Given as goal

abbrev pub invariant-loop-low : goal.invariant-loop-low
invariant-loop-low l = Narrowed l.self.bytes.now l.action l.self.ascending l.low l.high

abbrev pub decreases-loop-low : goal.decreases-loop-low
decreases-loop-low l = l.high - l.low
