-- `pnml_turn::arc_turn` meets its contract. Assumes nothing.
use Rattle.pnml_scan.proofs.Exits.{exit}
use Rattle.pnml_turn.specs.Serving.{Seen}
use Rattle.pnml_turn.proofs.Turns.{arc_seen, arc_stops}
use Rattle.pnml_turn.proofs.arc_turn.Goals as goal

pub returns-in_err-arc : goal.returns-in_err-arc
returns-in_err-arc c = exit (Seen _ _ _ _ _ _ _ _) _ _ c.from_residual.ensures.1 (arc_stops _ _ _ _ _ _ _ c.in_err-arc.ensures)

pub returns : goal.returns
returns c = arc_seen _ _ _ _ _ _ _ c.in_ok-arc.ensures
