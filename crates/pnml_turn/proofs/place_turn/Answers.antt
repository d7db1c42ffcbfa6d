-- `pnml_turn::place_turn` meets its contract. Assumes nothing.
use Rattle.pnml_scan.proofs.Exits.{exit}
use Rattle.pnml_turn.specs.Serving.{Seen}
use Rattle.pnml_turn.proofs.Turns.{place_seen, place_stops}
use Rattle.pnml_turn.proofs.place_turn.Goals as goal

pub returns-in_err-place : goal.returns-in_err-place
returns-in_err-place c =
    λ T A l z. exit (Seen _ _ _ _ _ _ _ _) _ _ c.from_residual.ensures.1 (place_stops _ _ _ _ c.in_err-place.ensures T A l z)

pub returns : goal.returns
returns c = place_seen _ _ _ _ c.in_ok-place.ensures
