-- `pnml_scan::pre_from` meets its contract. Assumes nothing.
use Rattle.pnml_scan.proofs.Arcs.{from_zero, from_place}
use Rattle.pnml_scan.specs.Serving.{arc_of}
use Rattle.pnml_scan.proofs.pre_from.Goals as goal

pub returns-then-least-transitions : goal.returns-then-least-transitions
returns-then-least-transitions c = from_zero (arc_of c.args.least) _ c.if-least-transitions.true

pub returns : goal.returns
returns c = from_place (arc_of c.args.least) _ c.if-least-transitions.false
