-- `pnml_turn::put_arc` meets its contract: the sets that the arc is none of stay. Assumes nothing.
use Rattle.std.proofs.Common.{rules}
use Rattle.pnml_state.specs.Serving.{joined_to}
use Rattle.pnml_turn.proofs.put_arc.Goals as goal
use Rattle.pnml_turn.proofs.put_arc.Goals.{then-arc, else-arc}

pub returns : goal.returns
unfolding joined_to
returns c = elim c.if-arc.branch [
  | then-arc w ↦ search (rules, w.kept-is, w.if-arc, w.join.ensures, c.arc_after.ensures, c.join-2.ensures)
  | else-arc w ↦ search (rules, w.kept-is, w.if-arc, w.join-else-arc.ensures, c.arc_after.ensures, c.join-2.ensures)
]
