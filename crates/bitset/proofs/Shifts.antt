-- Sets whose members are each n higher: what is a member, and that the other relations of sets are as before. For all numbers.
-- Assumes nothing.
use mathlib.Core.Path.{◌≡◌, sym, ap, ap₂, ◌∙◌, subst}
use mathlib.Core.Bool.{true, false, not, ◌&&◌, ◌||◌, false≢true}
use mathlib.Core.Logic.{◌⊎◌, inl, inr}
use Prim.Native.Nat.{ℕ, zero, suc, ◌+◌, ◌-◌, ◌*◌, ◌/◌, ◌%◌, ◌^◌, ◌≤◌, ◌<◌}
use native.Mathlib.Nat.{add_comm, mul-add, le_of_suc-le-suc, lt_of_lt_of_le, not-suc-le-zero, two-pow-succ}
use native.Mathlib.Omega.{arith}
use lib.Dec.{eqb}
use lib.Pow.{pow_mono, shl_lt, shl-shr}
use borrow.Author.Tests.{lt-ltb, ltb-true}
use Rattle.tables.proofs.Tests.{same_test}
use Rattle.tables.proofs.Below.{lt_or_ge}
use Rattle.bitset.specs.Sets.{member, subset, disjoint, difference, union, within, shifted}
use Rattle.bitset.proofs.Membership.{member_zero, member_suc, member_shift, member_union, member_difference, set_ext}
use Rattle.bitset.proofs.Relations.{subset_member, member_subset, disjoint_member, member_disjoint, within_member}

-- ---- members

-- one place higher is twice the number
shifted_suc : (n s : ℕ) → shifted (suc n) s ≡ shifted n s + shifted n s
unfolding shifted
shifted_suc n s = ap (λ (x : ℕ). s * x) (two-pow-succ n) ∙ mul-add s (2 ^ n) (2 ^ n)

-- none is below n
pub shifted_low : (n s k : ℕ) → k < n → member (shifted n s) k ≡ false
shifted_low zero s k h = absurd (not-suc-le-zero h)
shifted_low (suc n) s zero h =
    let even : shifted (suc n) s % 2 ≡ 0 = omega (arith, shifted_suc n s) in
    member_zero (shifted (suc n) s) ∙ ap (λ (x : ℕ). eqb x 1) even
shifted_low (suc n) s (suc k) h =
    let half : shifted (suc n) s / 2 ≡ shifted n s = omega (arith, shifted_suc n s) in
    member_suc (shifted (suc n) s) k ∙ ap (λ (x : ℕ). member x k) half ∙ shifted_low n s k (le_of_suc-le-suc h)

-- from n on they are those of s
pub shifted_high : (n s k : ℕ) → member (shifted n s) (n + k) ≡ member s k
unfolding shifted
shifted_high n s k = sym (member_shift (s * 2 ^ n) n k) ∙ ap (λ (x : ℕ). member x k) (shl-shr s n)

-- two sets are equal where they have the same members below n, and the same from n on
pub split_ext : (n a b : ℕ) → ((k : ℕ) → k < n → member a k ≡ member b k) → ((k : ℕ) → member a (n + k) ≡ member b (n + k)) → a ≡ b
split_ext n a b low high = set_ext a b (λ k. by k (lt_or_ge k n))
  where
    by : (k : ℕ) → (k < n) ⊎ (n ≤ k) → member a k ≡ member b k
    by k (inl h) = low k h
    by k (inr h) = let e : n + (k - n) ≡ k = omega arith in subst (λ (x : ℕ). member a x ≡ member b x) e (high (k - n))

-- a member of a shifted set is n higher than one of the set
pub shifted_member : (n s k : ℕ) → member (shifted n s) k ≡ true → (n ≤ k) × (member s (k - n) ≡ true)
shifted_member n s k h = by (lt_or_ge k n)
  where
    by : (k < n) ⊎ (n ≤ k) → (n ≤ k) × (member s (k - n) ≡ true)
    by (inl l) = absurd (false≢true (sym (shifted_low n s k l) ∙ h))
    by (inr l) =
        let e : n + (k - n) ≡ k = omega arith in
        (l, sym (shifted_high n s (k - n)) ∙ ap (member (shifted n s)) e ∙ h)

-- ---- the other relations

pub shifted_union : (n a b : ℕ) → union (shifted n a) (shifted n b) ≡ shifted n (union a b)
shifted_union n a b =
    split_ext n (union (shifted n a) (shifted n b)) (shifted n (union a b))
    (λ k h.
    member_union (shifted n a) (shifted n b) k ∙ ap₂ ◌||◌ (shifted_low n a k h) (shifted_low n b k h) ∙ sym (shifted_low n (union a b) k h))
    (λ k.
    member_union (shifted n a) (shifted n b) (n + k)
    ∙ ap₂ ◌||◌ (shifted_high n a k) (shifted_high n b k)
    ∙ sym (shifted_high n (union a b) k ∙ member_union a b k))

pub shifted_difference : (n a b : ℕ) → difference (shifted n a) (shifted n b) ≡ shifted n (difference a b)
shifted_difference n a b =
    split_ext n (difference (shifted n a) (shifted n b)) (shifted n (difference a b))
    (λ k h.
    member_difference (shifted n a) (shifted n b) k
    ∙ ap₂ (λ x y. x && not y) (shifted_low n a k h) (shifted_low n b k h)
    ∙ sym (shifted_low n (difference a b) k h))
    (λ k.
    member_difference (shifted n a) (shifted n b) (n + k)
    ∙ ap₂ (λ x y. x && not y) (shifted_high n a k) (shifted_high n b k)
    ∙ sym (shifted_high n (difference a b) k ∙ member_difference a b k))

pub shifted_subset : (n a b : ℕ) → subset (shifted n a) (shifted n b) ≡ subset a b
shifted_subset n a b = same_test (subset (shifted n a) (shifted n b)) (subset a b) there back
  where
    there : subset (shifted n a) (shifted n b) ≡ true → subset a b ≡ true
    there h =
        member_subset a b
        (λ k p. sym (shifted_high n b k) ∙ subset_member (shifted n a) (shifted n b) h (n + k) (shifted_high n a k ∙ p))

    back : subset a b ≡ true → subset (shifted n a) (shifted n b) ≡ true
    back h =
        member_subset (shifted n a) (shifted n b)
        (λ k p.
        let r = shifted_member n a k p in
        let l : n ≤ k = r.0 in
        let e : n + (k - n) ≡ k = omega arith in
        ap (member (shifted n b)) (sym e) ∙ shifted_high n b (k - n) ∙ subset_member a b h (k - n) r.1)

pub shifted_disjoint : (n a b : ℕ) → disjoint (shifted n a) (shifted n b) ≡ disjoint a b
shifted_disjoint n a b = same_test (disjoint (shifted n a) (shifted n b)) (disjoint a b) there back
  where
    there : disjoint (shifted n a) (shifted n b) ≡ true → disjoint a b ≡ true
    there h =
        member_disjoint a b
        (λ k p q. disjoint_member (shifted n a) (shifted n b) h (n + k) (shifted_high n a k ∙ p) (shifted_high n b k ∙ q))

    back : disjoint a b ≡ true → disjoint (shifted n a) (shifted n b) ≡ true
    back h =
        member_disjoint (shifted n a) (shifted n b)
        (λ k p q. disjoint_member a b h (k - n) (shifted_member n a k p).1 (shifted_member n b k q).1)

-- a set within n shares nothing with one that is shifted by n
pub apart_shifted : (n a b : ℕ) → within n a ≡ true → disjoint a (shifted n b) ≡ true
apart_shifted n a b h =
    member_disjoint a (shifted n b)
    (λ k p q. let l : n ≤ k = (shifted_member n b k q).0 in let m : k < n = within_member n a h k p in omega arith)

-- ---- bounds

-- a set of w digits has n more where it is shifted by n
pub shifted_lt : (n w s : ℕ) → s < 2 ^ w → shifted n s < 2 ^ (n + w)
unfolding shifted
shifted_lt n w s h = subst (λ (x : ℕ). s * 2 ^ n < 2 ^ x) (add_comm w n) (shl_lt w n h)

pub within_shifted : (n w s : ℕ) → within w s ≡ true → within (n + w) (shifted n s) ≡ true
unfolding within
within_shifted n w s h = lt-ltb (shifted n s) (2 ^ (n + w)) (shifted_lt n w s (ltb-true s (2 ^ w) h))

-- at a width that holds it
pub shifted_fits : (n w width s : ℕ) → within w s ≡ true → n + w ≤ width → shifted n s < 2 ^ width
unfolding within
shifted_fits n w width s h l = lt_of_lt_of_le (shifted_lt n w s (ltb-true s (2 ^ w) h)) (pow_mono l)
