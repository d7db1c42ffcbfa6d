-- `pnml_put::arc_where` meets its contract. Assumes nothing.
use Rattle.pnml_put.proofs.Arcs.{arc_in, arc_out}
use Rattle.pnml_put.proofs.arc_where.Goals as goal

pub returns-then-wanted : goal.returns-then-wanted
returns-then-wanted c = arc_in _ _ _ _ c.if-wanted.true c.arc-at.ensures

pub returns : goal.returns
returns c = arc_out _ _ _ _ c.requires.0 c.if-wanted.false
