-- `pnml_scan::place` meets its contract. Assumes nothing.
use native.Mathlib.Omega.{arith}
use Rattle.pnml_scan.specs.Serving.{PlaceRead}
use Rattle.pnml_scan.proofs.Exits.{exit}
use Rattle.pnml_scan.proofs.Parts.{head_at_name, head_at_index, head_of, tags_at_first, tags_of, front_at_head, front_of, back_at_text, back_of}
use Rattle.pnml_scan.proofs.Parts.{place_at_front, place_at_mark, place_at_back, place_of}
use Rattle.pnml_scan.proofs.place.Goals as goal

pub returns-in_err-name : goal.returns-in_err-name
returns-in_err-name c =
    exit (PlaceRead _ _ _) _ _ c.from_residual.ensures.1
    (place_at_front (front_at_head _ _ _ (head_at_name _ _ _ c.in_err-name.ensures)))

pub returns-in_err-index : goal.returns-in_err-index
returns-in_err-index c =
    exit (PlaceRead _ _ _) _ _ c.from_residual-in_err-index.ensures.1
    (place_at_front (front_at_head _ _ _ (head_at_index _ _ (omega arith) c.in_ok-name.ensures c.in_err-index.ensures)))

pub returns-in_err-start : goal.returns-in_err-start
returns-in_err-start c =
    exit (PlaceRead _ _ _) _ _ c.from_residual-in_err-start.ensures.1
    (place_at_front
    (front_at_head _ _ _ (head_of _ _ (omega arith) c.in_ok-name.ensures c.in_ok-index.ensures c.in_err-start.ensures)))

pub returns-in_err-opens : goal.returns-in_err-opens
returns-in_err-opens c =
    exit (PlaceRead _ _ _) _ _ c.from_residual-in_err-opens.ensures.1
    (place_at_front
    (front_of _ _ _ (head_of _ _ (omega arith) c.in_ok-name.ensures c.in_ok-index.ensures c.in_ok-start.ensures)
    (tags_at_first _ _ (omega arith) c.blank-first.ensures c.in_err-opens.ensures)))

pub returns-in_err-inner : goal.returns-in_err-inner
returns-in_err-inner c =
    exit (PlaceRead _ _ _) _ _ c.from_residual-in_err-inner.ensures.1
    (place_at_front
    (front_of _ _ _ (head_of _ _ (omega arith) c.in_ok-name.ensures c.in_ok-index.ensures c.in_ok-start.ensures)
    (tags_of _ _ (omega arith) (omega arith) c.blank-first.ensures c.in_ok-opens.ensures c.blank-second.ensures c.in_err-inner.ensures)))

pub returns-in_err-mark : goal.returns-in_err-mark
returns-in_err-mark c =
    exit (PlaceRead _ _ _) _ _ c.from_residual-in_err-mark.ensures.1
    (place_at_mark
    (front_of _ _ _ (head_of _ _ (omega arith) c.in_ok-name.ensures c.in_ok-index.ensures c.in_ok-start.ensures)
    (tags_of _ _ (omega arith) (omega arith) c.blank-first.ensures c.in_ok-opens.ensures c.blank-second.ensures c.in_ok-inner.ensures))
    c.in_err-mark.ensures)

pub returns-in_err-over : goal.returns-in_err-over
returns-in_err-over c =
    exit (PlaceRead _ _ _) _ _ c.from_residual-in_err-over.ensures.1
    (place_at_back
    (front_of _ _ _ (head_of _ _ (omega arith) c.in_ok-name.ensures c.in_ok-index.ensures c.in_ok-start.ensures)
    (tags_of _ _ (omega arith) (omega arith) c.blank-first.ensures c.in_ok-opens.ensures c.blank-second.ensures c.in_ok-inner.ensures))
    c.in_ok-mark.ensures (back_at_text c.in_err-over.ensures))

pub returns-in_err-closes : goal.returns-in_err-closes
returns-in_err-closes c =
    exit (PlaceRead _ _ _) _ _ c.from_residual-in_err-closes.ensures.1
    (place_at_back
    (front_of _ _ _ (head_of _ _ (omega arith) c.in_ok-name.ensures c.in_ok-index.ensures c.in_ok-start.ensures)
    (tags_of _ _ (omega arith) (omega arith) c.blank-first.ensures c.in_ok-opens.ensures c.blank-second.ensures c.in_ok-inner.ensures))
    c.in_ok-mark.ensures (back_of c.in_ok-over.ensures (tags_at_first _ _ (omega arith) c.blank-third.ensures c.in_err-closes.ensures)))

pub returns-in_err-at : goal.returns-in_err-at
returns-in_err-at c =
    exit (PlaceRead _ _ _) _ _ c.from_residual-in_err-at.ensures.1
    (place_at_back
    (front_of _ _ _ (head_of _ _ (omega arith) c.in_ok-name.ensures c.in_ok-index.ensures c.in_ok-start.ensures)
    (tags_of _ _ (omega arith) (omega arith) c.blank-first.ensures c.in_ok-opens.ensures c.blank-second.ensures c.in_ok-inner.ensures))
    c.in_ok-mark.ensures
    (back_of c.in_ok-over.ensures
    (tags_of _ _ (omega arith) (omega arith) c.blank-third.ensures c.in_ok-closes.ensures c.blank-fourth.ensures c.in_err-at.ensures)))

pub returns : goal.returns
returns c =
    place_of
    (front_of _ _ _ (head_of _ _ (omega arith) c.in_ok-name.ensures c.in_ok-index.ensures c.in_ok-start.ensures)
    (tags_of _ _ (omega arith) (omega arith) c.blank-first.ensures c.in_ok-opens.ensures c.blank-second.ensures c.in_ok-inner.ensures))
    c.in_ok-mark.ensures
    (back_of c.in_ok-over.ensures
    (tags_of _ _ (omega arith) (omega arith) c.blank-third.ensures c.in_ok-closes.ensures c.blank-fourth.ensures c.in_ok-at.ensures))
