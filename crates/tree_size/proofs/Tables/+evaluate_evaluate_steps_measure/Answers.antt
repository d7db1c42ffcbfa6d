-- The proof of the cycle of calls {evaluate, evaluate_steps, measure}. The operands are lower: with the record f the measures are 3f + 2 for
-- `measure`, which calls `evaluate` at f, 3f + 1 for `evaluate` and 3f for `evaluate_steps`. Assumes nothing.
use mathlib.Core.Path.{refl, sym, ◌∙◌, subst}
use mathlib.Core.Path.{◌≡◌}
use Prim.Native.Nat.{ℕ, ◌+◌, ◌*◌, ◌<◌, ◌≤◌}
use native.Mathlib.Omega.{arith}
use borrow.Author.Tests.{not-true, not-false}
use Rattle.net.specs.Table.{net_of, transitions}
use Rattle.tree_size.proofs.Records.{few, inside, operator_read, left_below, right_below}
use Rattle.tree_size.proofs.Sums.{capped_most}
use Rattle.tree_size.proofs.Memory.{hit, sound_store, ready_left, ready_right}
use Rattle.tree_size.proofs.Operators.{is_and, is_step, found_true, found_not, found_left, found-both}
use Rattle.tree_size.proofs.Turns.{offered_as, found_as, stepped_start, stepped_skip, stepped_next, stepped_true, stepped_done}
use Rattle.tree_size.proofs.Tables.+evaluate_evaluate_steps_measure.Goals as goal

-- the calls of `measure` for a lower record
left-falls : {l f t : ℕ} → l < f → 3 * f + 1 ≡ t → 3 * l + 2 < t
left-falls h e = omega arith

step_falls : {l f t : ℕ} → l < f → 3 * f ≡ t → 3 * l + 2 < t
step_falls h e = omega arith

-- ---- evaluate

pub evaluate-formula_at-r-requires : goal.evaluate-formula_at-r-requires
evaluate-formula_at-r-requires t c = inside _ _ c.requires.inside

pub evaluate-returns-in-0 : goal.evaluate-returns-in-0
evaluate-returns-in-0 t c =
    found_true _ _ c.requires.lower _ c.requires.inside _ _ c.formula_at-r.ensures _ c.in-0.is c.requires.sound
    c.over.ensures.0 c.over.ensures.1

pub evaluate-evaluate_steps-requires : goal.evaluate-evaluate_steps-requires
evaluate-evaluate_steps-requires t c = (
  subst (λ (j : ℕ). 3 * c.args.f < j) c.decreases (omega arith),
  (c.requires, sym (operator_read _ _ c.formula_at-r.ensures) ∙ c.in-3.is),
)

pub evaluate-shape_of-memo-in-3 : goal.evaluate-shape_of-memo-in-3
evaluate-shape_of-memo-in-3 t c = c.evaluate_steps.auto.memo

pub evaluate-returns-in-3 : goal.evaluate-returns-in-3
evaluate-returns-in-3 t c = c.evaluate_steps.ensures

pub evaluate-measure-left-requires : goal.evaluate-measure-left-requires
evaluate-measure-left-requires t c = (
  left-falls (left_below _ _ c.formula_at-r.ensures c.requires.lower c.requires.inside (λ z. grind arith)) c.decreases,
  ready_left c.requires _ refl c.requires.sound c.formula_at-r.ensures (λ z. grind arith),
)

pub evaluate-over-requires-in-1 : goal.evaluate-over-requires-in-1
evaluate-over-requires-in-1 t c = capped_most _ c.measure-left.ensures.1

pub evaluate-shape_of-memo-in-1 : goal.evaluate-shape_of-memo-in-1
evaluate-shape_of-memo-in-1 t c = c.measure-left.auto.memo

pub evaluate-returns-in-1 : goal.evaluate-returns-in-1
evaluate-returns-in-1 t c =
    found_not _ _ c.requires.lower _ c.requires.inside _ _ c.formula_at-r.ensures _ c.measure-left.ensures
    c.in-1.is c.over-in-1.ensures.0 c.over-in-1.ensures.1

pub evaluate-measure-left-requires-in_default : goal.evaluate-measure-left-requires-in_default
evaluate-measure-left-requires-in_default t c = (
  left-falls (left_below _ _ c.formula_at-r.ensures c.requires.lower c.requires.inside (λ z. grind arith)) c.decreases,
  ready_left c.requires _ refl c.requires.sound c.formula_at-r.ensures (λ z. grind arith),
)

pub evaluate-over-requires-then-not-left : goal.evaluate-over-requires-then-not-left
evaluate-over-requires-then-not-left t c = capped_most _ c.measure-left-in_default.ensures.1

pub evaluate-shape_of-memo-then-not-left : goal.evaluate-shape_of-memo-then-not-left
evaluate-shape_of-memo-then-not-left t c = c.measure-left-in_default.auto.memo

pub evaluate-returns-then-not-left : goal.evaluate-returns-then-not-left
evaluate-returns-then-not-left t c =
    found_left _ _ c.requires.lower _ c.requires.inside _ _ c.formula_at-r.ensures _ c.measure-left-in_default.ensures
    (is_and _ _ c.formula_at-r.ensures c.requires.lower c.requires.inside c.requires.until-free (λ z. grind arith) (λ z. grind arith) (λ z. grind arith)) (not-true _ c.if-not-left.true) c.over-then-not-left.ensures.0 c.over-then-not-left.ensures.1

pub evaluate-measure-right-requires : goal.evaluate-measure-right-requires
evaluate-measure-right-requires t c =
    let a = is_and _ _ c.formula_at-r.ensures c.requires.lower c.requires.inside c.requires.until-free (λ z. grind arith) (λ z. grind arith) (λ z. grind arith) in (
      left-falls (right_below _ _ c.formula_at-r.ensures c.requires.lower c.requires.inside a) c.decreases,
      ready_right c.requires _ c.measure-left-in_default.auto.memo c.measure-left-in_default.ensures.2 c.formula_at-r.ensures a,
    )

pub evaluate-both-requires : goal.evaluate-both-requires
evaluate-both-requires t c = (capped_most _ c.measure-left-in_default.ensures.1, capped_most _ c.measure-right.ensures.1)

pub evaluate-shape_of-memo-else-not-left : goal.evaluate-shape_of-memo-else-not-left
evaluate-shape_of-memo-else-not-left t c = c.measure-right.auto.memo ∙ c.measure-left-in_default.auto.memo

pub evaluate-returns-else-not-left : goal.evaluate-returns-else-not-left
evaluate-returns-else-not-left t c =
    found-both _ _ c.requires.lower _ c.requires.inside _ _ c.formula_at-r.ensures _ c.measure-left-in_default.ensures _ c.measure-right.ensures
    (is_and _ _ c.formula_at-r.ensures c.requires.lower c.requires.inside c.requires.until-free (λ z. grind arith) (λ z. grind arith) (λ z. grind arith)) (not-false _ c.if-not-left.false) c.both.ensures.0 c.both.ensures.1

pub evaluate_steps-formula_at-r-requires : goal.evaluate_steps-formula_at-r-requires
evaluate_steps-formula_at-r-requires t c = inside _ _ c.requires.0.inside

pub evaluate_steps-loop-t-init : goal.evaluate_steps-loop-t-init
evaluate_steps-loop-t-init t c = (refl, stepped_start _ _ _ _ _ c.requires.0.sound)

pub evaluate_steps-offered-requires : goal.evaluate_steps-offered-requires
evaluate_steps-offered-requires t c = (c.requires.0.sized, omega arith)

pub evaluate_steps-loop-t-preserved-then-not-offered : goal.evaluate_steps-loop-t-preserved-then-not-offered
evaluate_steps-loop-t-preserved-then-not-offered t c = (
  c.loop-t.invariant.0,
  stepped_skip _ _ _ _ c.loop-t.invariant.1
      (offered_as _ _ _ _ c.formula_at-r.ensures _ c.offered.ensures (not-true _ c.if-not-offered.true-raw)),
)

pub evaluate_steps-after-requires : goal.evaluate_steps-after-requires
evaluate_steps-after-requires t c = (c.requires.0.sized, omega arith)

pub evaluate_steps-measure-next-requires : goal.evaluate_steps-measure-next-requires
evaluate_steps-measure-next-requires t c =
    let d = is_step _ _ c.formula_at-r.ensures c.requires.1 in (
      step_falls (left_below _ _ c.formula_at-r.ensures c.requires.0.lower c.requires.0.inside d) c.decreases,
      ready_left c.requires.0 _ c.loop-t.invariant.0 c.loop-t.invariant.1.sound c.formula_at-r.ensures d,
    )

pub evaluate_steps-over-requires : goal.evaluate_steps-over-requires
evaluate_steps-over-requires t c = capped_most _ c.measure-next.ensures.1

pub evaluate_steps-shape_of-memo-then-next : goal.evaluate_steps-shape_of-memo-then-next
evaluate_steps-shape_of-memo-then-next t c = c.measure-next.auto.memo ∙ c.loop-t.invariant.0

pub evaluate_steps-returns-then-next : goal.evaluate_steps-returns-then-next
unfolding net_of
evaluate_steps-returns-then-next t c =
    let k : c.loop-t.t < transitions c.args.self.now.net.now = omega arith in
    stepped_true _ _ _ _ _ c.loop-t.invariant.1
    (offered_as _ _ _ _ c.formula_at-r.ensures _ c.offered.ensures (not-false _ c.if-not-offered.false-raw))
    (found_as _ _ _ _ c.formula_at-r.ensures _ _ c.after.ensures c.measure-next.ensures)
    c.requires.0.lower c.requires.0.inside c.requires.1
    k c.if-next.true c.over.ensures.0 c.over.ensures.1

pub evaluate_steps-plus-size-requires : goal.evaluate_steps-plus-size-requires
evaluate_steps-plus-size-requires t c = (capped_most _ c.loop-t.invariant.1.counted, capped_most _ c.measure-next.ensures.1)

pub evaluate_steps-loop-t-preserved : goal.evaluate_steps-loop-t-preserved
evaluate_steps-loop-t-preserved t c = (
  c.measure-next.auto.memo ∙ c.loop-t.invariant.0,
  stepped_next _ _ _ _ _ c.loop-t.invariant.1
      (offered_as _ _ _ _ c.formula_at-r.ensures _ c.offered.ensures (not-false _ c.if-not-offered.false-raw))
      (found_as _ _ _ _ c.formula_at-r.ensures _ _ c.after.ensures c.measure-next.ensures)
      c.if-next.false c.plus-size.ensures,
)

pub evaluate_steps-shape_of-memo : goal.evaluate_steps-shape_of-memo
evaluate_steps-shape_of-memo t c = c.loop-t.invariant.0

pub evaluate_steps-returns : goal.evaluate_steps-returns
unfolding net_of
evaluate_steps-returns t c =
    let a : transitions c.args.self.now.net.now ≤ c.loop-t.t = omega arith in
    let b : c.loop-t.t ≤ transitions c.args.self.now.net.now = omega arith in
    stepped_done _ _ _ _ c.loop-t.invariant.1 c.requires.0.lower c.requires.0.inside c.requires.1 a b

pub measure-find-i-requires : goal.measure-find-i-requires
measure-find-i-requires t c = (few _ _ c.requires.few c.requires.inside, c.requires.room)

pub measure-evaluate-found-requires : goal.measure-evaluate-found-requires
measure-evaluate-found-requires t c = (subst (λ (j : ℕ). 3 * c.args.f + 1 < j) c.decreases (omega arith), c.requires)

pub measure-returns-in-Some : goal.measure-returns-in-Some
measure-returns-in-Some t c = hit _ _ _ _ _ _ c.find-i.ensures.0 c.find-i.ensures.1 c.requires.sound c.in-Some.ensures

pub measure-of-requires : goal.measure-of-requires
measure-of-requires t c = capped_most _ c.evaluate-found.ensures.1

pub measure-returns : goal.measure-returns
measure-returns t c = (
  c.evaluate-found.ensures.0,
  c.evaluate-found.ensures.1,
  sound_store _ _ _ _ _ _ c.find-i.ensures.0 c.find-i.ensures.1 c.evaluate-found.ensures.2 (c.evaluate-found.auto.memo ∙ c.requires.room)
      c.evaluate-found.ensures.0 c.evaluate-found.ensures.1 c.of.ensures,
)
