-- The proof of the cycle of calls {write_fails, write_holds}. The operands are lower: the measure of both is the record's number.
-- Assumes nothing.
use mathlib.Core.Path.{◌≡◌, refl, sym, ◌∙◌}
use Prim.Native.Nat.{ℕ, ◌<◌, ◌≤◌}
use native.Mathlib.Omega.{arith}
use borrow.Author.Tests.{not-true, not-false}
use Rattle.net.specs.Table.{transitions}
use Rattle.tree_size.proofs.Records.{inside, operator_read, left_read}
use Rattle.tree_size.proofs.Turns.{offered_as}
use Rattle.tree_put.proofs.Places.{put_as, formula_fits, fitting, single_writing, first_writing, second_writing, leaf_laid, single_laid, double_laid}
use Rattle.tree_put.proofs.Turns.{turn_start, turn_skip, turn_writing, turn_next, turn_end}
use Rattle.tree_put.proofs.Ways.{holds_0, holds_1, holds_2, holds_3, holds_after, fails_1, fails_3, fails_lower, transition_few, children_roots, children_few}
use Rattle.tree_put.proofs.+write_fails_write_holds.Goals as goal

-- the calls for a lower record
lower-falls : {g f t : ℕ} → g < f → f ≡ t → g < t
lower-falls h e = omega arith

-- ---- write_holds

pub write_holds-formula_at-record-requires : goal.write_holds-formula_at-record-requires
write_holds-formula_at-record-requires t c = inside _ _ c.requires.ready.inside

pub write_holds-clean-sequent-requires : goal.write_holds-clean-sequent-requires
write_holds-clean-sequent-requires t c = formula_fits c.requires

pub write_fails-clean-sequent-requires : goal.write_fails-clean-sequent-requires
write_fails-clean-sequent-requires t c = formula_fits c.requires

pub write_holds-put-requires : goal.write_holds-put-requires
write_holds-put-requires t c = fitting c.requires _ _ (omega arith) (omega arith)

pub write_holds-shape_of-room-in-0 : goal.write_holds-shape_of-room-in-0
write_holds-shape_of-room-in-0 t c = c.put.auto.room

pub write_holds-returns-in-0 : goal.write_holds-returns-in-0
write_holds-returns-in-0 t c = leaf_laid _ _ _ _ _ _ _ _ _ _ (holds_0 c.requires c.formula_at-record.ensures c.in-0.is) (put_as _ _ _ _ _ _ _ _ c.clean-sequent.ensures c.put.ensures) c.requires.ready.sound

pub write_holds-put-requires-in-1 : goal.write_holds-put-requires-in-1
write_holds-put-requires-in-1 t c = fitting c.requires _ _ (omega arith) (omega arith)

pub write_holds-overflow_add-free : goal.write_holds-overflow_add-free
write_holds-overflow_add-free t c = record { fits = omega (arith, c.requires.few) }

pub write_holds-write_fails-requires : goal.write_holds-write_fails-requires
write_holds-write_fails-requires t c =
    let one = holds_1 c.requires c.formula_at-record.ensures c.in-1.is in
    (lower-falls one.claim.lower c.decreases, single_writing c.requires one refl c.requires.ready.sound c.put-in-1.auto.room)

pub write_holds-shape_of-memo-in-1 : goal.write_holds-shape_of-memo-in-1
write_holds-shape_of-memo-in-1 t c = c.write_fails.auto.memo

pub write_holds-shape_of-room-in-1 : goal.write_holds-shape_of-room-in-1
write_holds-shape_of-room-in-1 t c = c.write_fails.auto.room ∙ c.put-in-1.auto.room

pub write_holds-returns-in-1 : goal.write_holds-returns-in-1
write_holds-returns-in-1 t c =
    let one = holds_1 c.requires c.formula_at-record.ensures c.in-1.is in
    single_laid _ _ _ _ _ _ _ _ _ _ _ _ one (put_as _ _ _ _ _ _ _ _ c.clean-sequent.ensures c.put-in-1.ensures) c.write_fails.ensures

pub write_holds-put-requires-in-2 : goal.write_holds-put-requires-in-2
write_holds-put-requires-in-2 t c = fitting c.requires _ _ (omega arith) (omega arith)

pub write_holds-overflow_add-free-in-2 : goal.write_holds-overflow_add-free-in-2
write_holds-overflow_add-free-in-2 t c = record { fits = omega (arith, c.requires.few) }

pub write_holds-write_holds-next-requires : goal.write_holds-write_holds-next-requires
write_holds-write_holds-next-requires t c =
    let two = holds_2 c.requires c.formula_at-record.ensures c.in-2.is in
    (lower-falls two.left.lower c.decreases, first_writing c.requires two refl c.requires.ready.sound c.put-in-2.auto.room)

pub write_holds-overflow_add-free-in-2-2 : goal.write_holds-overflow_add-free-in-2-2
write_holds-overflow_add-free-in-2-2 t c = record { fits = omega (arith, c.requires.few) }

pub write_holds-write_holds-requires : goal.write_holds-write_holds-requires
write_holds-write_holds-requires t c =
    let two = holds_2 c.requires c.formula_at-record.ensures c.in-2.is in (
      lower-falls two.right.lower c.decreases,
      second_writing c.requires two c.write_holds-next.auto.memo c.write_holds-next.ensures.2 (c.write_holds-next.auto.room ∙ c.put-in-2.auto.room) _ c.write_holds-next.ensures.1,
    )

pub write_holds-shape_of-memo-in-2 : goal.write_holds-shape_of-memo-in-2
write_holds-shape_of-memo-in-2 t c = c.write_holds.auto.memo ∙ c.write_holds-next.auto.memo

pub write_holds-shape_of-room-in-2 : goal.write_holds-shape_of-room-in-2
write_holds-shape_of-room-in-2 t c = c.write_holds.auto.room ∙ c.write_holds-next.auto.room ∙ c.put-in-2.auto.room

pub write_holds-returns-in-2 : goal.write_holds-returns-in-2
write_holds-returns-in-2 t c =
    let two = holds_2 c.requires c.formula_at-record.ensures c.in-2.is in
    double_laid _ _ _ _ _ _ _ _ _ _ _ _ _ _ _ two (put_as _ _ _ _ _ _ _ _ c.clean-sequent.ensures c.put-in-2.ensures) c.write_holds-next.ensures c.write_holds.ensures

pub write_holds-lowest-t-requires : goal.write_holds-lowest-t-requires
write_holds-lowest-t-requires t c = (c.requires.ready, holds_3 c.requires c.formula_at-record.ensures (λ z. grind arith) (λ z. grind arith) (λ z. grind arith), c.requires.truth)

pub write_holds-put-requires-in_default : goal.write_holds-put-requires-in_default
write_holds-put-requires-in_default t c = fitting c.requires _ _ (transition_few _ _ c.requires.ready.sized c.lowest-t.ensures.1) (omega arith)

pub write_holds-after-after-requires : goal.write_holds-after-after-requires
write_holds-after-after-requires t c = (c.requires.ready.sized, c.lowest-t.ensures.1)

pub write_holds-overflow_add-free-in_default : goal.write_holds-overflow_add-free-in_default
write_holds-overflow_add-free-in_default t c = record { fits = omega (arith, c.requires.few) }

pub write_holds-write_holds-requires-in_default : goal.write_holds-write_holds-requires-in_default
write_holds-write_holds-requires-in_default t c =
    let op = holds_3 c.requires c.formula_at-record.ensures (λ z. grind arith) (λ z. grind arith) (λ z. grind arith) in
    let one = holds_after c.requires c.formula_at-record.ensures op _ _ c.lowest-t.ensures.0 c.after-after.ensures in
    (lower-falls one.claim.lower c.decreases, single_writing c.requires one c.lowest-t.auto.memo c.lowest-t.ensures.2 c.put-in_default.auto.room)

pub write_holds-shape_of-memo-in_default : goal.write_holds-shape_of-memo-in_default
write_holds-shape_of-memo-in_default t c = c.write_holds-in_default.auto.memo ∙ c.lowest-t.auto.memo

pub write_holds-shape_of-room-in_default : goal.write_holds-shape_of-room-in_default
write_holds-shape_of-room-in_default t c = c.write_holds-in_default.auto.room ∙ c.put-in_default.auto.room

pub write_holds-returns-in_default : goal.write_holds-returns-in_default
write_holds-returns-in_default t c =
    let op = holds_3 c.requires c.formula_at-record.ensures (λ z. grind arith) (λ z. grind arith) (λ z. grind arith) in
    let one = holds_after c.requires c.formula_at-record.ensures op _ _ c.lowest-t.ensures.0 c.after-after.ensures in
    single_laid _ _ _ _ _ _ _ _ _ _ _ _ one (put_as _ _ _ _ _ _ _ _ c.clean-sequent.ensures c.put-in_default.ensures) c.write_holds-in_default.ensures

pub write_fails-formula_at-record-requires : goal.write_fails-formula_at-record-requires
write_fails-formula_at-record-requires t c = inside _ _ c.requires.ready.inside

pub write_fails-put-requires : goal.write_fails-put-requires
write_fails-put-requires t c = fitting c.requires _ _ (omega arith) (omega arith)

pub write_fails-overflow_add-free : goal.write_fails-overflow_add-free
write_fails-overflow_add-free t c = record { fits = omega (arith, c.requires.few) }

pub write_fails-write_holds-requires : goal.write_fails-write_holds-requires
write_fails-write_holds-requires t c =
    let one = fails_1 c.requires c.formula_at-record.ensures c.in-1.is in
    (lower-falls one.claim.lower c.decreases, single_writing c.requires one refl c.requires.ready.sound c.put.auto.room)

pub write_fails-shape_of-memo-in-1 : goal.write_fails-shape_of-memo-in-1
write_fails-shape_of-memo-in-1 t c = c.write_holds.auto.memo

pub write_fails-shape_of-room-in-1 : goal.write_fails-shape_of-room-in-1
write_fails-shape_of-room-in-1 t c = c.write_holds.auto.room ∙ c.put.auto.room

pub write_fails-returns-in-1 : goal.write_fails-returns-in-1
write_fails-returns-in-1 t c =
    let one = fails_1 c.requires c.formula_at-record.ensures c.in-1.is in
    single_laid _ _ _ _ _ _ _ _ _ _ _ _ one (put_as _ _ _ _ _ _ _ _ c.clean-sequent.ensures c.put.ensures) c.write_holds.ensures

pub write_fails-failing-part-requires : goal.write_fails-failing-part-requires
write_fails-failing-part-requires t c = (c.requires.ready, sym (operator_read _ _ c.formula_at-record.ensures) ∙ c.in-2.is, c.requires.truth)

pub write_fails-put-requires-in-2 : goal.write_fails-put-requires-in-2
write_fails-put-requires-in-2 t c = fitting c.requires _ _ (omega arith) (omega arith)

pub write_fails-overflow_add-free-in-2 : goal.write_fails-overflow_add-free-in-2
write_fails-overflow_add-free-in-2 t c = record { fits = omega (arith, c.requires.few) }

pub write_fails-write_fails-requires : goal.write_fails-write_fails-requires
write_fails-write_fails-requires t c = (lower-falls c.failing-part.ensures.0.claim.lower c.decreases, single_writing c.requires c.failing-part.ensures.0 c.failing-part.auto.memo c.failing-part.ensures.1 c.put-in-2.auto.room)

pub write_fails-shape_of-memo-in-2 : goal.write_fails-shape_of-memo-in-2
write_fails-shape_of-memo-in-2 t c = c.write_fails.auto.memo ∙ c.failing-part.auto.memo

pub write_fails-shape_of-room-in-2 : goal.write_fails-shape_of-room-in-2
write_fails-shape_of-room-in-2 t c = c.write_fails.auto.room ∙ c.put-in-2.auto.room

pub write_fails-returns-in-2 : goal.write_fails-returns-in-2
write_fails-returns-in-2 t c = single_laid _ _ _ _ _ _ _ _ _ _ _ _ c.failing-part.ensures.0 (put_as _ _ _ _ _ _ _ _ c.clean-sequent.ensures c.put-in-2.ensures) c.write_fails.ensures

pub write_fails-tally-n-requires : goal.write_fails-tally-n-requires
write_fails-tally-n-requires t c = c.requires.ready.sized

pub write_fails-put-requires-in_default : goal.write_fails-put-requires-in_default
write_fails-put-requires-in_default t c = fitting c.requires _ _ (omega arith) (children_few _ _ _ _ _ c.formula_at-record.ensures c.tally-n.ensures c.requires.ready.sized)

pub write_fails-overflow_add-next : goal.write_fails-overflow_add-next
write_fails-overflow_add-next t c =
    let n = children_few _ _ _ _ _ c.formula_at-record.ensures c.tally-n.ensures c.requires.ready.sized in
    record { fits = omega (arith, c.requires.few) }

pub write_fails-loop-t-init : goal.write_fails-loop-t-init
write_fails-loop-t-init t c = turn_start _ _ _ (children_roots _ _ _ _ _ c.formula_at-record.ensures c.tally-n.ensures) c.requires.ready.sound

pub write_fails-offered-requires : goal.write_fails-offered-requires
write_fails-offered-requires t c = (c.requires.ready.sized, omega arith)

pub write_fails-loop-t-preserved-then-not-offered : goal.write_fails-loop-t-preserved-then-not-offered
write_fails-loop-t-preserved-then-not-offered t c =
    let h : c.loop-t.t < transitions c.args.tables.now.net.now = omega arith in
    let o = offered_as _ _ _ _ c.formula_at-record.ensures _ c.offered.ensures (not-true _ c.if-not-offered.true-raw) in
    turn_skip c.loop-t.invariant h o

pub write_fails-after-after-requires : goal.write_fails-after-after-requires
write_fails-after-after-requires t c = (c.requires.ready.sized, omega arith)

pub write_fails-write_fails-next-requires : goal.write_fails-write_fails-next-requires
write_fails-write_fails-next-requires t c =
    let h : c.loop-t.t < transitions c.args.tables.now.net.now = omega arith in
    let op = fails_3 c.requires c.formula_at-record.ensures (λ z. grind arith) (λ z. grind arith) in
    let o = offered_as _ _ _ _ c.formula_at-record.ensures _ c.offered.ensures (not-false _ c.if-not-offered.false-raw) in (
      lower-falls (fails_lower c.requires c.formula_at-record.ensures op) c.decreases,
      turn_writing c.loop-t.invariant h c.requires op refl c.put-in_default.auto.room o (left_read _ _ c.formula_at-record.ensures) c.after-after.ensures,
    )

pub write_fails-overflow_add-child : goal.write_fails-overflow_add-child
write_fails-overflow_add-child t c =
    let h : c.loop-t.t < transitions c.args.tables.now.net.now = omega arith in
    let op = fails_3 c.requires c.formula_at-record.ensures (λ z. grind arith) (λ z. grind arith) in
    let o = offered_as _ _ _ _ c.formula_at-record.ensures _ c.offered.ensures (not-false _ c.if-not-offered.false-raw) in
    let v = turn_writing c.loop-t.invariant h c.requires op refl c.put-in_default.auto.room o (left_read _ _ c.formula_at-record.ensures) c.after-after.ensures in
    record { fits = omega (arith, v.own, v.few) }

pub write_fails-loop-t-preserved : goal.write_fails-loop-t-preserved
write_fails-loop-t-preserved t c =
    let h : c.loop-t.t < transitions c.args.tables.now.net.now = omega arith in
    let o = offered_as _ _ _ _ c.formula_at-record.ensures _ c.offered.ensures (not-false _ c.if-not-offered.false-raw) in
    turn_next c.loop-t.invariant h o (left_read _ _ c.formula_at-record.ensures) c.after-after.ensures c.write_fails-next.auto.memo c.write_fails-next.auto.room c.write_fails-next.ensures

pub write_fails-shape_of-memo-after-loop-t : goal.write_fails-shape_of-memo-after-loop-t
write_fails-shape_of-memo-after-loop-t t c = c.loop-t.invariant.memo_length

pub write_fails-shape_of-room-after-loop-t : goal.write_fails-shape_of-room-after-loop-t
write_fails-shape_of-room-after-loop-t t c = c.loop-t.invariant.room_length ∙ c.put-in_default.auto.room

pub write_fails-returns-after-loop-t : goal.write_fails-returns-after-loop-t
write_fails-returns-after-loop-t t c =
    let h : transitions c.args.tables.now.net.now ≤ c.loop-t.t = omega arith in
    let op = fails_3 c.requires c.formula_at-record.ensures (λ z. grind arith) (λ z. grind arith) in
    turn_end c.loop-t.invariant h c.requires op (children_roots _ _ _ _ _ c.formula_at-record.ensures c.tally-n.ensures) (put_as _ _ _ _ _ _ _ _ c.clean-sequent.ensures c.put-in_default.ensures)
