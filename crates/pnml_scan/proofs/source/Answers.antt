-- `pnml_scan::source` meets its contract. Assumes nothing.
use borrow.Author.Tests.{not-true, not-false}
use Rattle.pnml_scan.proofs.Arcs.{source_end, source_post, source_pre, source_other}
use Rattle.pnml_scan.proofs.source.Goals as goal

pub returns-then-at-text : goal.returns-then-at-text
returns-then-at-text c = source_end _ _ _ c.if-at-text.true

pub returns-then-b-eq116 : goal.returns-then-b-eq116
returns-then-b-eq116 c = source_post _ _ _ c.if-at-text.false c.if-b-eq116.true

pub returns-then-not-b-pre : goal.returns-then-not-b-pre
returns-then-not-b-pre c = source_other _ _ _ c.if-at-text.false c.if-b-eq116.false (not-true _ c.if-not-b-pre.true-raw)

pub returns : goal.returns
returns c = source_pre _ _ _ c.if-at-text.false (not-false _ c.if-not-b-pre.false-raw)
