-- `pnml_turn::closing_turn` meets its contract. Assumes nothing.
use Rattle.pnml_scan.proofs.Exits.{exit}
use Rattle.pnml_turn.specs.Serving.{Seen}
use Rattle.pnml_turn.proofs.Turns.{end_seen, end_stops}
use Rattle.pnml_turn.proofs.closing_turn.Goals as goal

pub returns-in_err-closing : goal.returns-in_err-closing
returns-in_err-closing c =
    λ P T A l. exit (Seen _ _ _ _ _ _ _ _) _ _ c.from_residual.ensures.1 (end_stops _ _ _ c.in_err-closing.ensures P T A l)

pub returns : goal.returns
returns c = end_seen _ _ _ c.in_ok-closing.ensures
