-- `compact::numbers_of` meets its contract. The invariant: the numbers below i are found, and n marks are counted. Assumes nothing.
use mathlib.Core.Path.{◌≡◌}
use Rattle.tables.specs.Lists.{tab, up_to}
use Rattle.tables.specs.Below.{count_below}
use Rattle.compact.specs.Serving.{is_marked}
use Rattle.compact.proofs.numbers_of.Given as goal

abbrev pub invariant-loop-i : goal.invariant-loop-i
invariant-loop-i l = (l.n ≡ count_below (is_marked l.marks) l.i) × (l.number-items ≡ tab (up_to (count_below (is_marked l.marks)) l.i) 256)
