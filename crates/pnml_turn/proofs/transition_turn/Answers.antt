-- `pnml_turn::transition_turn` meets its contract. Assumes nothing.
use Rattle.pnml_scan.proofs.Exits.{exit}
use Rattle.pnml_turn.specs.Serving.{Seen}
use Rattle.pnml_turn.proofs.Turns.{transition_seen, transition_stops}
use Rattle.pnml_turn.proofs.transition_turn.Goals as goal

pub returns-in_err-transition : goal.returns-in_err-transition
returns-in_err-transition c =
    λ P A l. exit (Seen _ _ _ _ _ _ _ _) _ _ c.from_residual.ensures.1 (transition_stops _ _ _ _ c.in_err-transition.ensures P A l)

pub returns : goal.returns
returns c = transition_seen _ _ _ _ c.in_ok-transition.ensures
