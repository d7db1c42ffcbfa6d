-- `pnml_scan::blank` meets its contract. The invariant: all bytes up to i are white. Assumes nothing.
use mathlib.Core.Path.{sym, ◌∙◌}
use borrow.Author.Tests.{not-false}
use Rattle.pnml_scan.proofs.Scan.{passed_more}
use Rattle.pnml_scan.proofs.blank.Goals as goal

pub loop-i-preserved : goal.loop-i-preserved
loop-i-preserved c =
    passed_more _ _ _ c.loop-i.invariant c.loop-i-test.true (sym c.white.ensures ∙ not-false _ c.if-not-white.false-raw)
