-- `pnml_scan::post_into` meets its contract. Assumes nothing.
use Rattle.pnml_scan.proofs.Arcs.{out_place, out_zero}
use Rattle.pnml_scan.specs.Serving.{arc_of}
use Rattle.pnml_scan.proofs.post_into.Goals as goal

pub returns-then-least-transition : goal.returns-then-least-transition
returns-then-least-transition c = out_place (arc_of c.args.least) _ c.if-least-transition.true

pub returns : goal.returns
returns c = out_zero (arc_of c.args.least) _ c.if-least-transition.false
