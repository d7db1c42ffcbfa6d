-- `pnml_scan::more_digits` meets its contract. The invariant: the digits up to k make v. Assumes nothing.
use Rattle.pnml_scan.proofs.Numbers.{Made}
use Rattle.pnml_scan.proofs.more_digits.Given as goal

abbrev pub invariant-loop-k : goal.invariant-loop-k
invariant-loop-k l = Made l.text l.at l.n l.lo l.hi l.k l.v
