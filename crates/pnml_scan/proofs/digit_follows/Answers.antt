-- `pnml_scan::digit_follows` meets its contract. Assumes nothing.
use Rattle.pnml_scan.proofs.Numbers.{above_digit, above_digits}
use Rattle.pnml_scan.proofs.digit_follows.Goals as goal

pub returns-then-d-hi : goal.returns-then-d-hi
returns-then-d-hi c = above_digit _ _ _ _ c.if-d-hi.true

pub returns-then-v-hi : goal.returns-then-v-hi
returns-then-v-hi c = above_digits _ _ _ _ c.if-v-hi.true
