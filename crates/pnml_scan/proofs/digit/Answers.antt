-- `pnml_scan::digit` meets its contract. Assumes nothing.
use mathlib.Core.Path.{◌∙◌, sym, ap}
use Rattle.pnml_shape.specs.Machine.{digit}
use Rattle.pnml_scan.proofs.Numbers.{digit_low, digit_high}
use Rattle.pnml_scan.proofs.digit.Goals as goal

pub returns-then-b-lt48 : goal.returns-then-b-lt48
returns-then-b-lt48 c = λ l. ap digit (sym (c.in_ok-b.ensures.lookup.3.1 0)) ∙ digit_low _ c.if-b-lt48.true

pub returns-then-b-gt57 : goal.returns-then-b-gt57
returns-then-b-gt57 c = λ l. ap digit (sym (c.in_ok-b.ensures.lookup.3.1 0)) ∙ digit_high _ c.if-b-gt57.true
