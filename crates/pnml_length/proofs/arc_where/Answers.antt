-- `pnml_length::arc_where` meets its contract. Assumes nothing.
use Rattle.pnml_length.proofs.Sums.{arc_in, arc_out}
use Rattle.pnml_length.proofs.arc_where.Goals as goal

pub returns-then-wanted : goal.returns-then-wanted
returns-then-wanted c =
    arc_in _ _ _ _ _ c.if-wanted.true c.digits.ensures c.digits-then-wanted.ensures c.digits-then-wanted-2.ensures

pub returns : goal.returns
returns c = arc_out _ _ _ _ _ c.if-wanted.false
