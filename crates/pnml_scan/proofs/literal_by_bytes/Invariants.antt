-- `pnml_scan::literal_by_bytes` meets its contract. The invariant: the first i bytes of the word are there. Assumes nothing.
use Rattle.pnml_scan.proofs.Scan.{Spelled}
use Rattle.pnml_scan.proofs.literal_by_bytes.Given as goal

abbrev pub invariant-loop-i : goal.invariant-loop-i
invariant-loop-i l = Spelled l.text l.at l.word l.i
