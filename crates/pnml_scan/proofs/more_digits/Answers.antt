-- `pnml_scan::more_digits` meets its contract. The invariant: the digits up to k make v. Assumes nothing.
use mathlib.Core.Path.{sym, ◌∙◌}
use native.Mathlib.Omega.{arith}
use borrow.Author.Tests.{not-true, not-false}
use Rattle.pnml_scan.proofs.Numbers.{made_more, made_zero, made_hopeless, made_over, made_end, possible_most}
use Rattle.pnml_scan.proofs.more_digits.Goals as goal

pub returns-in_default : goal.returns-in_default
returns-in_default c = made_over _ _ _ _ _ _ _ c.loop-k.invariant c.in_default.ensures _ c.ended.ensures

pub returns-then-v-eq0 : goal.returns-then-v-eq0
returns-then-v-eq0 c = made_zero _ _ _ _ _ _ _ _ c.loop-k.invariant c.in-Some.ensures c.if-v-eq0.true

pub returns-then-not-digit_follows : goal.returns-then-not-digit_follows
returns-then-not-digit_follows c =
    made_hopeless _ _ _ _ _ _ _ _ c.loop-k.invariant c.in-Some.ensures (sym c.digit_follows.ensures ∙ not-true _ c.if-not-digit_follows.true-raw)

pub overflow_mul-v : goal.overflow_mul-v
overflow_mul-v c =
    omega (arith, possible_most _ _ _ (sym c.digit_follows.ensures ∙ not-false _ c.if-not-digit_follows.false-raw))

pub overflow_add-v : goal.overflow_add-v
overflow_add-v c =
    omega (arith, possible_most _ _ _ (sym c.digit_follows.ensures ∙ not-false _ c.if-not-digit_follows.false-raw))

pub loop-k-preserved : goal.loop-k-preserved
loop-k-preserved c =
    made_more _ _ _ _ _ _ _ _ c.loop-k.invariant c.in-Some.ensures c.if-v-eq0.false
    (sym c.digit_follows.ensures ∙ not-false _ c.if-not-digit_follows.false-raw)

pub returns : goal.returns
returns c = made_end _ _ _ _ _ _ _ c.loop-k.invariant (omega (arith, c.loop-k-test.false)) _ c.ended-2.ensures
