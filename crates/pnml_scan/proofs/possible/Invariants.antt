-- `pnml_scan::possible` meets its contract. The invariant: the bounds divided so far give the same answer. Assumes nothing.
use Rattle.pnml_scan.proofs.Numbers.{Looked}
use Rattle.pnml_scan.proofs.possible.Given as goal

abbrev pub invariant-loop-high : goal.invariant-loop-high
invariant-loop-high l = Looked l.v l.lo l.hi l.low l.high

abbrev pub decreases-loop-high : goal.decreases-loop-high
decreases-loop-high l = l.high
