-- The marks of a net's drawing: how many there are, that each is 0 or 1, and that they give the marking back. Assumes nothing.
use mathlib.Core.Path.{◌≡◌, refl, ap, ap₂, ◌∙◌}
use mathlib.Core.Bool.{Bool, true, false, cond, ◌&&◌}
use Prim.Native.Nat.{ℕ, zero, suc, ◌≤◌, ◌<◌, zero-le}
use native.Mathlib.Nat.{lt-suc_self, lt_trans, le_refl}
use native.Mathlib.Numerals.{add-one}
use lib.ListN.{length}
use lib.Dec.{eqb, ltb, leb}
use borrow.Author.Tests.{lt-ltb, le-leb}
use Rattle.tables.proofs.Tests.{and_intro, and_right, same_test}
use Rattle.bitset.specs.Sets.{member, add, within, collect}
use Rattle.bitset.proofs.Membership.{set_ext}
use Rattle.bitset.proofs.Relations.{member_collect, collect_step, within_member}
use Rattle.pnml_shape.specs.Drawing.{at_most}
use Rattle.pnml_net.specs.Nets.{countdown, mark_of, marking_of}

-- ---- a countdown

pub countdown_length : (f : ℕ → ℕ) (n : ℕ) → length (countdown f n) ≡ n
unfolding countdown
countdown_length f zero = refl
countdown_length f (suc n) = ap suc (countdown_length f n)

pub countdown_most : (b : ℕ) (f : ℕ → ℕ) (n : ℕ) → ((k : ℕ) → k < n → f k ≤ b) → at_most b (countdown f n) ≡ true
unfolding countdown at_most
countdown_most b f zero h = refl
countdown_most b f (suc n) h =
    and_intro (leb (f n) b) (at_most b (countdown f n)) (le-leb (f n) b (h n (lt-suc_self n)))
    (countdown_most b f n (λ k l. h k (lt_trans l (lt-suc_self n))))

-- ---- a mark

mark_test : (m p : ℕ) → eqb (mark_of m p) 1 ≡ member m p
unfolding mark_of
mark_test m p = by (member m p)
  where
    by : (b : Bool) → eqb (cond b 1 0) 1 ≡ b
    by true = refl
    by false = refl

pub mark_most : (m p : ℕ) → mark_of m p ≤ 1
unfolding mark_of
mark_most m p = by (member m p)
  where
    by : (b : Bool) → cond b 1 0 ≤ 1
    by true = le_refl 1
    by false = zero-le

-- ---- the marking

-- a set is collected from its own members
pub collect_back : (n s : ℕ) → within n s ≡ true → collect (member s) n ≡ s
collect_back n s h =
    set_ext (collect (member s) n) s
    (λ k. member_collect (member s) n k
    ∙ same_test (ltb k n && member s k) (member s k) (and_right (ltb k n) (member s k))
    (λ p. and_intro (ltb k n) (member s k) (lt-ltb k n (within_member n s h k p)) p))

marks_collect : (m n : ℕ) → marking_of (countdown (mark_of m) n) ≡ collect (member m) n
unfolding countdown marking_of collect
marks_collect m zero = refl
marks_collect m (suc n) =
    ap₂ (λ (s : ℕ) (k : ℕ). add s k (eqb (mark_of m n) 1)) (marks_collect m n) (countdown_length (mark_of m) n)
    ∙ ap (add (collect (member m) n) n) (mark_test m n)
    ∙ collect_step (member m) n
    ∙ ap (collect (member m)) (add-one n)

-- a marking drawn and read back is the same
pub marking_back : (places m : ℕ) → within places m ≡ true → marking_of (countdown (mark_of m) places) ≡ m
marking_back places m h = marks_collect m places ∙ collect_back places m h
