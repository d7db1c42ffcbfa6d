-- `pnml_scan::closing` meets its contract. Assumes nothing.
use Rattle.pnml_scan.specs.Serving.{Closed}
use Rattle.pnml_scan.proofs.Exits.{exit}
use Rattle.pnml_scan.proofs.Parts.{closing_at_page, closing_at_net, closing_at_pnml, closing_stops, closing_of}
use Rattle.pnml_scan.proofs.closing.Goals as goal

pub returns-in_err-page : goal.returns-in_err-page
returns-in_err-page c = exit (Closed _ _) _ _ c.from_residual.ensures.1 (closing_stops (closing_at_page c.in_err-page.ensures))

pub returns-in_err-net : goal.returns-in_err-net
returns-in_err-net c =
    exit (Closed _ _) _ _ c.from_residual-in_err-net.ensures.1
    (closing_stops (closing_at_net c.in_ok-page.ensures c.blank-first.ensures c.in_err-net.ensures))

pub returns-in_err-pnml : goal.returns-in_err-pnml
returns-in_err-pnml c =
    exit (Closed _ _) _ _ c.from_residual-in_err-pnml.ensures.1
    (closing_stops (closing_at_pnml c.in_ok-page.ensures c.blank-first.ensures c.in_ok-net.ensures c.blank-second.ensures c.in_err-pnml.ensures))

pub returns : goal.returns
returns c =
    closing_of (closing_at_pnml c.in_ok-page.ensures c.blank-first.ensures c.in_ok-net.ensures c.blank-second.ensures c.in_ok-pnml.ensures)
    c.end.ensures
