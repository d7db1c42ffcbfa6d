-- `pnml_scan::number` meets its contract. Assumes nothing.
use Rattle.pnml_scan.proofs.Numbers.{value_whole}
use Rattle.pnml_scan.proofs.number.Goals as goal

pub returns-in-Some : goal.returns-in-Some
returns-in-Some c = value_whole _ _ _ _ _ c.in-Some.ensures
