-- `pnml_scan::pre_ends` meets its contract. Assumes nothing.
use native.Mathlib.Omega.{arith}
use Rattle.pnml_scan.specs.Serving.{Ends}
use Rattle.pnml_scan.proofs.Exits.{exit}
use Rattle.pnml_scan.proofs.Arcs.{at_first, at_word, at_second, at_last, both, pre_stops, pre_ends_of}
use Rattle.pnml_scan.proofs.pre_ends.Goals as goal

pub returns-in_err-place : goal.returns-in_err-place
returns-in_err-place c =
    exit (Ends _ _ _ _ _) _ _ c.from_residual.ensures.1 (pre_stops _ (at_first _ _ _ _ _ c.pre_from.ensures (omega arith) c.in_err-place.ensures))

pub returns-in_err-target : goal.returns-in_err-target
returns-in_err-target c =
    exit (Ends _ _ _ _ _) _ _ c.from_residual-in_err-target.ensures.1
    (pre_stops _ (at_word _ _ _ _ _ c.pre_from.ensures (omega arith) c.in_ok-place.ensures c.in_err-target.ensures))

pub returns-in_err-transition : goal.returns-in_err-transition
returns-in_err-transition c =
    exit (Ends _ _ _ _ _) _ _ c.from_residual-in_err-transition.ensures.1
    (pre_stops _
    (at_second _ _ _ _ _ c.pre_from.ensures (omega arith) c.in_ok-place.ensures c.in_ok-target.ensures c.pre_into-low.ensures
    c.in_err-transition.ensures))

pub returns-in_err-at : goal.returns-in_err-at
returns-in_err-at c =
    exit (Ends _ _ _ _ _) _ _ c.from_residual-in_err-at.ensures.1
    (pre_stops _
    (at_last _ _ _ _ _ c.pre_from.ensures (omega arith) c.in_ok-place.ensures c.in_ok-target.ensures c.pre_into-low.ensures
    c.in_ok-transition.ensures c.in_err-at.ensures))

pub returns : goal.returns
returns c =
    pre_ends_of _ c.requires.fact
    (both _ _ _ _ _ c.pre_from.ensures (omega arith) c.in_ok-place.ensures c.in_ok-target.ensures c.pre_into-low.ensures
    c.in_ok-transition.ensures c.in_ok-at.ensures)
