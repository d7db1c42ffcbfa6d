-- `pnml_scan::pre_into` meets its contract. Assumes nothing.
use Rattle.pnml_scan.proofs.Arcs.{into_same, into_next}
use Rattle.pnml_scan.specs.Serving.{arc_of}
use Rattle.pnml_scan.proofs.pre_into.Goals as goal

pub returns-then-least-place : goal.returns-then-least-place
returns-then-least-place c = into_same (arc_of c.args.least) _ c.if-least-place.true

pub returns : goal.returns
returns c = into_next (arc_of c.args.least) _ c.if-least-place.false
