-- `pnml_scan::ending` meets its contract. Assumes nothing.
use Rattle.pnml_scan.proofs.Marks.{end_there}
use Rattle.pnml_scan.proofs.ending.Goals as goal

pub returns-then-there : goal.returns-then-there
returns-then-there c = end_there _ _ _ (c.there.ensures c.if-there.true) c.requires.1
