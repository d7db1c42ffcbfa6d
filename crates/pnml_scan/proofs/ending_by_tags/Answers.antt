-- `pnml_scan::ending_by_tags` meets its contract. Assumes nothing.
use Rattle.pnml_scan.specs.Serving.{EndRead}
use Rattle.pnml_scan.proofs.Exits.{exit}
use Rattle.pnml_scan.proofs.Marks.{end_at_text, end_at_name, end_at_mark, end_at_tag, end_tags}
use Rattle.pnml_scan.proofs.ending_by_tags.Goals as goal

pub returns-in_err-over : goal.returns-in_err-over
returns-in_err-over c = exit (EndRead _ _ _) _ _ c.from_residual.ensures.1 (end_at_text c.in_err-over.ensures)

pub returns-in_err-closes : goal.returns-in_err-closes
returns-in_err-closes c =
    exit (EndRead _ _ _) _ _ c.from_residual-in_err-closes.ensures.1
    (end_at_name c.in_ok-over.ensures c.blank-first.ensures c.in_err-closes.ensures)

pub returns-in_err-entry : goal.returns-in_err-entry
returns-in_err-entry c =
    exit (EndRead _ _ _) _ _ c.from_residual-in_err-entry.ensures.1
    (end_at_mark c.in_ok-over.ensures c.blank-first.ensures c.in_ok-closes.ensures c.blank-second.ensures c.in_err-entry.ensures)

pub returns-in_err-at : goal.returns-in_err-at
returns-in_err-at c =
    exit (EndRead _ _ _) _ _ c.from_residual-in_err-at.ensures.1
    (end_at_tag c.in_ok-over.ensures c.blank-first.ensures c.in_ok-closes.ensures c.blank-second.ensures c.in_ok-entry.ensures c.in_err-at.ensures)

pub returns : goal.returns
returns c =
    end_tags c.in_ok-over.ensures c.blank-first.ensures c.in_ok-closes.ensures c.blank-second.ensures c.in_ok-entry.ensures c.in_ok-at.ensures
