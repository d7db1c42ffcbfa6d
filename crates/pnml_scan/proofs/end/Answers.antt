-- `pnml_scan::end` meets its contract. Assumes nothing.
use Rattle.pnml_scan.proofs.Parts.{end_there, end_other}
use Rattle.pnml_scan.proofs.end.Goals as goal

pub returns-then-end-text : goal.returns-then-end-text
returns-then-end-text c = end_other c.blank-end.ensures c.if-end-text.true

pub returns : goal.returns
returns c = end_there c.blank-end.ensures c.if-end-text.false
