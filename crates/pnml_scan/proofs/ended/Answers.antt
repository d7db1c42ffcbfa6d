-- `pnml_scan::ended` meets its contract. Assumes nothing.
use Rattle.pnml_scan.proofs.Numbers.{ended_there, ended_low}
use Rattle.pnml_scan.proofs.ended.Goals as goal

pub returns-then-lo-v : goal.returns-then-lo-v
returns-then-lo-v c = ended_there _ _ _ c.if-lo-v.true

pub returns : goal.returns
returns c = ended_low _ _ _ c.if-lo-v.false
