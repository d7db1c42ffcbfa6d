-- `pnml_scan::arc_after` meets its contract. Assumes nothing.
use Rattle.pnml_scan.proofs.Arcs.{after_place, after_post, after_pre}
use Rattle.pnml_scan.specs.Serving.{arc_of}
use Rattle.pnml_scan.proofs.arc_after.Goals as goal

pub returns-then-a-places : goal.returns-then-a-places
returns-then-a-places c = after_place _ (arc_of c.args.a) c.if-a-places.true

pub returns-then-a : goal.returns-then-a
returns-then-a c = after_post _ (arc_of c.args.a) c.if-a-places.false c.if-a.true

pub returns : goal.returns
returns c = after_pre _ (arc_of c.args.a) c.if-a-places.false c.if-a.false
