-- `pnml_scan::mark` meets its contract. Assumes nothing.
use mathlib.Core.Path.{sym, ◌∙◌}
use native.Mathlib.Omega.{arith}
use borrow.Author.Tests.{not-true, not-false}
use Rattle.pnml_scan.specs.Serving.{MarkRead}
use Rattle.pnml_scan.proofs.Exits.{exit}
use Rattle.pnml_scan.proofs.Marks.{opening, mark_none, mark_gone, mark_read}
use Rattle.pnml_scan.proofs.mark.Goals as goal

pub returns-then-not-mark_opens : goal.returns-then-not-mark_opens
returns-then-not-mark_opens c =
    mark_none _ _ _ (sym c.mark_opens.ensures ∙ not-true _ c.if-not-mark_opens.true-raw) c.requires.0 c.requires.1

pub literal-requires : goal.literal-requires
literal-requires c = omega (arith, (opening _ _ (sym c.mark_opens.ensures ∙ not-false _ c.if-not-mark_opens.false-raw)).inside)

pub returns-in_err-mark : goal.returns-in_err-mark
returns-in_err-mark c =
    exit (MarkRead _ _ _) _ _ c.from_residual.ensures.1
    (mark_gone (sym c.mark_opens.ensures ∙ not-false _ c.if-not-mark_opens.false-raw) c.in_err-mark.ensures)

pub returns : goal.returns
returns c =
    mark_read (sym c.mark_opens.ensures ∙ not-false _ c.if-not-mark_opens.false-raw) c.requires.1 c.in_ok-mark.ensures c.blank-at.ensures
