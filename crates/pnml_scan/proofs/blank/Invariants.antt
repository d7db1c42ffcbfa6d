-- `pnml_scan::blank` meets its contract. The invariant: all bytes up to i are white. Assumes nothing.
use Rattle.pnml_scan.proofs.Scan.{Passed}
use Rattle.pnml_scan.proofs.blank.Given as goal

abbrev pub invariant-loop-i : goal.invariant-loop-i
invariant-loop-i l = Passed l.text l.at l.i
