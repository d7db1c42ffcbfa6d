-- `pnml_scan::transition` meets its contract. Assumes nothing.
use native.Mathlib.Omega.{arith}
use Rattle.pnml_scan.specs.Serving.{TransitionRead}
use Rattle.pnml_scan.proofs.Exits.{exit}
use Rattle.pnml_scan.proofs.Parts.{head_at_name, head_at_index, head_of, tags_at_first, tags_of, front_at_head, front_of}
use Rattle.pnml_scan.proofs.Marks.{transition_at_front, transition_at_action, transition_of}
use Rattle.pnml_scan.proofs.transition.Goals as goal

pub returns-in_err-name : goal.returns-in_err-name
returns-in_err-name c =
    exit (TransitionRead _ _ _) _ _ c.from_residual.ensures.1
    (transition_at_front (front_at_head _ _ _ (head_at_name _ _ _ c.in_err-name.ensures)))

pub returns-in_err-index : goal.returns-in_err-index
returns-in_err-index c =
    exit (TransitionRead _ _ _) _ _ c.from_residual-in_err-index.ensures.1
    (transition_at_front (front_at_head _ _ _ (head_at_index _ _ (omega arith) c.in_ok-name.ensures c.in_err-index.ensures)))

pub returns-in_err-start : goal.returns-in_err-start
returns-in_err-start c =
    exit (TransitionRead _ _ _) _ _ c.from_residual-in_err-start.ensures.1
    (transition_at_front
    (front_at_head _ _ _ (head_of _ _ (omega arith) c.in_ok-name.ensures c.in_ok-index.ensures c.in_err-start.ensures)))

pub returns-in_err-opens : goal.returns-in_err-opens
returns-in_err-opens c =
    exit (TransitionRead _ _ _) _ _ c.from_residual-in_err-opens.ensures.1
    (transition_at_front
    (front_of _ _ _ (head_of _ _ (omega arith) c.in_ok-name.ensures c.in_ok-index.ensures c.in_ok-start.ensures)
    (tags_at_first _ _ (omega arith) c.blank-first.ensures c.in_err-opens.ensures)))

pub returns-in_err-inner : goal.returns-in_err-inner
returns-in_err-inner c =
    exit (TransitionRead _ _ _) _ _ c.from_residual-in_err-inner.ensures.1
    (transition_at_front
    (front_of _ _ _ (head_of _ _ (omega arith) c.in_ok-name.ensures c.in_ok-index.ensures c.in_ok-start.ensures)
    (tags_of _ _ (omega arith) (omega arith) c.blank-first.ensures c.in_ok-opens.ensures c.blank-second.ensures c.in_err-inner.ensures)))

pub returns-in_err-action : goal.returns-in_err-action
returns-in_err-action c =
    exit (TransitionRead _ _ _) _ _ c.from_residual-in_err-action.ensures.1
    (transition_at_action
    (front_of _ _ _ (head_of _ _ (omega arith) c.in_ok-name.ensures c.in_ok-index.ensures c.in_ok-start.ensures)
    (tags_of _ _ (omega arith) (omega arith) c.blank-first.ensures c.in_ok-opens.ensures c.blank-second.ensures c.in_ok-inner.ensures))
    c.in_err-action.ensures)

pub returns : goal.returns
returns c =
    transition_of
    (front_of _ _ _ (head_of _ _ (omega arith) c.in_ok-name.ensures c.in_ok-index.ensures c.in_ok-start.ensures)
    (tags_of _ _ (omega arith) (omega arith) c.blank-first.ensures c.in_ok-opens.ensures c.blank-second.ensures c.in_ok-inner.ensures))
    c.in_ok-action.ensures c.ending.ensures
