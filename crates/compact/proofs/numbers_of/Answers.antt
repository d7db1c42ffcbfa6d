-- `compact::numbers_of` meets its contract. The invariant: the numbers below i are found, and n marks are counted. Assumes nothing.
use mathlib.Core.Path.{refl}
use mathlib.Core.Bool.{false}
use lib.ListN.{get_or}
use native.Mathlib.Omega.{arith}
use borrow.Author.Rules.{rules}
use Rattle.tables.specs.Below.{count_below}
use Rattle.tables.proofs.Below.{count_most}
use Rattle.tables.proofs.Entries.{grow, zeros}
use Rattle.compact.specs.Serving.{is_marked}
use Rattle.compact.proofs.Counting.{counted_next, counted_few, filled}
use Rattle.compact.proofs.numbers_of.Goals as goal

pub loop-i-init : goal.loop-i-init
unfolding count_below
loop-i-init c = (refl, zeros (count_below _) 256)

pub overflow_add-n : goal.overflow_add-n
overflow_add-n c =
    let m = count_most (is_marked c.args.marks.now) c.loop-i.i in
    let v = counted_few (get_or c.args.marks.now c.loop-i.i false) c.from-n.ensures in
    search rules

pub loop-i-preserved : goal.loop-i-preserved
loop-i-preserved c = (
  counted_next _ c.loop-i.i c.loop-i.invariant.0 c.from-n.ensures,
  grow (count_below (is_marked _)) c.loop-i.i 256 _ _ c.loop-i-test.true c.loop-i.invariant.1 c.loop-i.invariant.0,
)

pub returns : goal.returns
returns c = filled (count_below (is_marked _)) 256 c.loop-i.i c.loop-i.invariant.1 (omega arith)
