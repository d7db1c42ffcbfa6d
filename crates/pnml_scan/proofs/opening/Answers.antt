-- `pnml_scan::opening` meets its contract. Assumes nothing.
use Rattle.pnml_scan.specs.Serving.{Opened}
use Rattle.pnml_scan.proofs.Exits.{exit}
use Rattle.pnml_scan.proofs.Parts.{opening_of, opening_at_pnml, opening_at_net}
use Rattle.pnml_scan.proofs.opening.Goals as goal

pub returns-in_err-pnml : goal.returns-in_err-pnml
returns-in_err-pnml c = exit (Opened _) _ _ c.from_residual.ensures.1 (opening_at_pnml c.in_err-pnml.ensures)

pub returns-in_err-net : goal.returns-in_err-net
returns-in_err-net c =
    exit (Opened _) _ _ c.from_residual-in_err-net.ensures.1 (opening_at_net c.in_ok-pnml.ensures c.blank-first.ensures c.in_err-net.ensures)

pub returns : goal.returns
returns c = opening_of c.in_ok-pnml.ensures c.blank-first.ensures c.in_ok-net.ensures c.blank-second.ensures c.literal-3.ensures
