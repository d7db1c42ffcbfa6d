-- `pnml_scan::number_by_digits` meets its contract. Assumes nothing.
use mathlib.Core.Path.{sym, ◌∙◌}
use borrow.Author.Tests.{not-true, not-false}
use Rattle.pnml_scan.proofs.Numbers.{value_none, value_hopeless, value_reading, value_of}
use Rattle.pnml_scan.proofs.number_by_digits.Goals as goal

pub returns-in_default : goal.returns-in_default
returns-in_default c = value_none _ _ _ _ c.requires c.in_default.ensures

pub returns-then-not-possible : goal.returns-then-not-possible
returns-then-not-possible c =
    value_hopeless _ _ _ _ _ c.in-Some.ensures (sym c.possible.ensures ∙ not-true _ c.if-not-possible.true-raw)

pub more_digits-requires : goal.more_digits-requires
more_digits-requires c =
    value_reading _ _ _ _ _ c.in-Some.ensures (sym c.possible.ensures ∙ not-false _ c.if-not-possible.false-raw)

pub returns : goal.returns
returns c =
    value_of _ _ _ _ _ c.in-Some.ensures (sym c.possible.ensures ∙ not-false _ c.if-not-possible.false-raw) c.more_digits.ensures
