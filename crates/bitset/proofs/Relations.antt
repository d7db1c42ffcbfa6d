-- What the tests of two sets say of their members; the sets below a bound; the sets that a loop collects. For all numbers.
-- Assumes nothing.
use mathlib.Core.Path.{◌≡◌, refl, sym, ap, ap₂, ◌∙◌, subst}
use mathlib.Core.Bool.{Bool, true, false, cond, not, ◌&&◌, ◌||◌, and-true, or-false, true≢false, false≢true}
use mathlib.Core.Logic.{◌⊎◌, inl, inr}
use Prim.Native.Nat.{ℕ, zero, suc, ◌+◌, ◌-◌, ◌*◌, ◌/◌, ◌%◌, ◌^◌, ◌≤◌, ◌<◌}
use native.Mathlib.Nat.{add_comm, add-zero, one-mul, div-eq_of_lt, mod-eq_of_lt, two-pow-succ, le_of_lt, lt_of_lt_of_le, div-add-mod', mod-lt, lt-suc_self, lt_trans}
use native.Mathlib.Numerals.{add-one}
use native.Mathlib.Omega.{arith}
use lib.Bits.{bit_and, bit_or, or_shifted, or_comm, and_comm, and_le_l, and_mask}
use lib.Pow.{pow_pos, pow_mono, shl_exact}
use lib.Dec.{eqb, ltb}
use borrow.Author.Tests.{eqb-true, eq-eqb, eqb-false, lt-ltb, le-ltb, ltb-true, ltb-false, not-true}
use Rattle.bitset.specs.Sets.{member, subset, disjoint, difference, union, within, collect, add, beyond}
use Rattle.tables.proofs.Tests.{passed, and_left, and_right, and_intro, either, same_test, failed}
use Rattle.bitset.proofs.Membership.{member_and, member_union, member_difference, and_complement, member_empty, member_bit, member_shift, set_ext, some_member}

-- ---- subset

pub subset_member : (a b : ℕ) → subset a b ≡ true → (k : ℕ) → member a k ≡ true → member b k ≡ true
unfolding subset
subset_member a b h k p =
    and_right (member a k) (member b k) (sym (member_and a b k) ∙ ap (λ (x : ℕ). member x k) (eqb-true (bit_and a b) a h) ∙ p)

pub member_subset : (a b : ℕ) → ((k : ℕ) → member a k ≡ true → member b k ≡ true) → subset a b ≡ true
unfolding subset
member_subset a b h = eq-eqb (bit_and a b) a (set_ext (bit_and a b) a same)
  where
    same : (k : ℕ) → member (bit_and a b) k ≡ member a k
    same k =
        same_test (member (bit_and a b) k) (member a k) (λ p. and_left (member a k) (member b k) (sym (member_and a b k) ∙ p))
        (λ p. member_and a b k ∙ and_intro (member a k) (member b k) p (h k p))

-- each member of a is in b exactly where none is left without those of b
pub subset_difference : (a b : ℕ) → subset a b ≡ eqb (difference a b) 0
unfolding subset difference
subset_difference a b =
    same_test (eqb (bit_and a b) a) (eqb (a - bit_and a b) 0)
    (λ h. eq-eqb (a - bit_and a b) 0 (omega (arith, eqb-true (bit_and a b) a h)))
    (λ h. eq-eqb (bit_and a b) a (omega (arith, eqb-true (a - bit_and a b) 0 h, and_le_l a b)))

pub subset_refl : (a : ℕ) → subset a a ≡ true
subset_refl a = member_subset a a (λ k p. p)

pub subset_trans : (a b c : ℕ) → subset a b ≡ true → subset b c ≡ true → subset a c ≡ true
subset_trans a b c p q = member_subset a c (λ k h. subset_member b c q k (subset_member a b p k h))

-- ---- disjoint

pub disjoint_member : (a b : ℕ) → disjoint a b ≡ true → (k : ℕ) → member a k ≡ true → member b k ≡ true → ⊥
unfolding disjoint
disjoint_member a b h k p q =
    true≢false
    (sym (member_and a b k ∙ and_intro (member a k) (member b k) p q) ∙ ap (λ (x : ℕ). member x k) (eqb-true (bit_and a b) 0 h) ∙ member_empty k)

pub member_disjoint : (a b : ℕ) → ((k : ℕ) → member a k ≡ true → member b k ≡ true → ⊥) → disjoint a b ≡ true
unfolding disjoint
member_disjoint a b h = eq-eqb (bit_and a b) 0 (set_ext (bit_and a b) 0 (λ k. none k ∙ sym (member_empty k)))
  where
    none : (k : ℕ) → member (bit_and a b) k ≡ false
    none k =
        failed (member (bit_and a b) k)
        (λ p. let q : (member a k && member b k) ≡ true = sym (member_and a b k) ∙ p in
        h k (and_left (member a k) (member b k) q) (and_right (member a k) (member b k) q))

pub meet_member : (a b : ℕ) → disjoint a b ≡ false → (k : ℕ) × (member a k ≡ true) × (member b k ≡ true)
unfolding disjoint
meet_member a b h =
    let r : (k : ℕ) × (member (bit_and a b) k ≡ true) = some_member (bit_and a b) (eqb-false (bit_and a b) 0 h) in
    let q : (member a r.0 && member b r.0) ≡ true = sym (member_and a b r.0) ∙ r.1 in
    (r.0, and_left (member a r.0) (member b r.0) q, and_right (member a r.0) (member b r.0) q)

pub disjoint_comm : (a b : ℕ) → disjoint a b ≡ disjoint b a
unfolding disjoint
disjoint_comm a b = ap (λ (x : ℕ). eqb x 0) (and_comm a b)

-- ---- within

-- the test by a shift
pub within_shift : (n s : ℕ) → eqb (s / 2 ^ n) 0 ≡ within n s
unfolding within
within_shift n s = same_test (eqb (s / 2 ^ n) 0) (ltb s (2 ^ n)) there back
  where
    there : eqb (s / 2 ^ n) 0 ≡ true → ltb s (2 ^ n) ≡ true
    there p =
        let z : s / 2 ^ n ≡ 0 = eqb-true (s / 2 ^ n) 0 p in
        let e : s / 2 ^ n * 2 ^ n + s % 2 ^ n ≡ s = div-add-mod' s (2 ^ n) in
        let e' : 0 * 2 ^ n + s % 2 ^ n ≡ s = rw z at e in
        let l : s % 2 ^ n < 2 ^ n = mod-lt s (pow_pos n) in
        lt-ltb s (2 ^ n) (omega arith)

    back : ltb s (2 ^ n) ≡ true → eqb (s / 2 ^ n) 0 ≡ true
    back p = eq-eqb (s / 2 ^ n) 0 (div-eq_of_lt (ltb-true s (2 ^ n) p))

-- a set of fewer than n digits is below any bound from n on
pub within_wide : (w n s : ℕ) → s < 2 ^ w → w ≤ n → within n s ≡ true
unfolding within
within_wide w n s p q = lt-ltb s (2 ^ n) (lt_of_lt_of_le p (pow_mono q))

-- and a set within n is within more
pub within_more : (n w s : ℕ) → within n s ≡ true → within (n + w) s ≡ true
unfolding within
within_more n w s h = within_wide n (n + w) s (ltb-true s (2 ^ n) h) (omega arith)

-- a member of a set of w digits is below w
pub member_lt : (w s : ℕ) → s < 2 ^ w → (k : ℕ) → member s k ≡ true → k < w
unfolding member
member_lt w s h k p = by (passed (ltb k w))
  where
    by : (ltb k w ≡ true) ⊎ (ltb k w ≡ false) → k < w
    by (inl e) = ltb-true k w e
    by (inr e) =
        let z : s / 2 ^ k ≡ 0 = div-eq_of_lt (lt_of_lt_of_le h (pow_mono (ltb-false k w e))) in
        absurd (false≢true (sym (ap (λ (x : ℕ). eqb (x % 2) 1) z) ∙ p))

pub within_member : (n s : ℕ) → within n s ≡ true → (k : ℕ) → member s k ≡ true → k < n
unfolding within
within_member n s h = member_lt n s (ltb-true s (2 ^ n) h)

pub member_within : (n s : ℕ) → ((k : ℕ) → member s k ≡ true → k < n) → within n s ≡ true
member_within n s h = by (passed (eqb (s / 2 ^ n) 0))
  where
    by : (eqb (s / 2 ^ n) 0 ≡ true) ⊎ (eqb (s / 2 ^ n) 0 ≡ false) → within n s ≡ true
    by (inl e) = sym (within_shift n s) ∙ e
    by (inr e) =
        let r : (k : ℕ) × (member (s / 2 ^ n) k ≡ true) = some_member (s / 2 ^ n) (eqb-false (s / 2 ^ n) 0 e) in
        let l : n + r.0 < n = h (n + r.0) (sym (member_shift s n r.0) ∙ r.1) in
        absurd (omega arith)

-- a union of two sets within n
pub union_within : (n a b : ℕ) → within n a ≡ true → within n b ≡ true → within n (union a b) ≡ true
union_within n a b p q =
    member_within n (union a b) (λ k h. by k (either (member a k) (member b k) (sym (member_union a b k) ∙ h)))
  where
    by : (k : ℕ) → (member a k ≡ true) ⊎ (member b k ≡ true) → k < n
    by k (inl e) = within_member n a p k e
    by k (inr e) = within_member n b q k e

-- ---- collected sets

-- 1 shifted by n, at any width that holds it
pub bit_shift : (w n : ℕ) → n < w → 1 * 2 ^ n % 2 ^ w ≡ 2 ^ n
bit_shift w n h = shl_exact 1 n w (lt-suc_self 1) (omega arith) ∙ one-mul (2 ^ n)

pub collect_lt : (f : ℕ → Bool) (n : ℕ) → collect f n < 2 ^ n
unfolding collect
collect_lt f zero = lt-suc_self 0
collect_lt f (suc n) = subst (λ (x : ℕ). collect f n + cond (f n) (2 ^ n) 0 < x) (sym (two-pow-succ n)) (by (collect_lt f n) (f n))
  where
    by : collect f n < 2 ^ n → (b : Bool) → collect f n + cond b (2 ^ n) 0 < 2 ^ n + 2 ^ n
    by h true = omega arith
    by h false = omega arith

-- what a loop adds where n passes, and where it does not
pub collect_more : (f : ℕ → Bool) (n : ℕ) → f n ≡ true → union (collect f n) (2 ^ n) ≡ collect f (suc n)
unfolding collect union
collect_more f n p =
    or_comm (collect f n) (2 ^ n)
    ∙ ap (λ (x : ℕ). bit_or x (collect f n)) (sym (one-mul (2 ^ n)))
    ∙ or_shifted 1 n (collect f n) (collect_lt f n)
    ∙ ap (λ (x : ℕ). x + collect f n) (one-mul (2 ^ n))
    ∙ add_comm (2 ^ n) (collect f n)
    ∙ sym (ap (λ b. collect f n + cond b (2 ^ n) 0) p)

pub collect_less : (f : ℕ → Bool) (n : ℕ) → f n ≡ false → collect f n ≡ collect f (suc n)
unfolding collect
collect_less f n p = sym (add-zero (collect f n)) ∙ sym (ap (λ b. collect f n + cond b (2 ^ n) 0) p)

-- a number other than n is below suc n exactly where it is below n
lt_skip : (k n : ℕ) → (k ≡ n → ⊥) → ltb k n ≡ ltb k (suc n)
lt_skip k n d =
    same_test (ltb k n) (ltb k (suc n)) (λ h. let l : k < n = ltb-true k n h in lt-ltb k (suc n) (omega arith))
    (λ h. let l : k < suc n = ltb-true k (suc n) h in lt-ltb k n (omega arith))

collect_none : (f : ℕ → Bool) (k : ℕ) → member (collect f 0) k ≡ false
unfolding collect
collect_none f k = member_empty k

-- the members of a collected set are the numbers that pass
pub member_collect : (f : ℕ → Bool) (n k : ℕ) → member (collect f n) k ≡ (ltb k n && f k)
member_collect f zero k = collect_none f k ∙ sym (ap (λ b. b && f k) (le-ltb k 0 (omega arith)))
member_collect f (suc n) k = by (member_collect f n k) (passed (f n)) (passed (eqb k n))
  where
    by : member (collect f n) k ≡ (ltb k n && f k) → (f n ≡ true) ⊎ (f n ≡ false) → (eqb k n ≡ true) ⊎ (eqb k n ≡ false)
        → member (collect f (suc n)) k ≡ (ltb k (suc n) && f k)
    by ih (inl p) q =
        ap (λ (x : ℕ). member x k) (sym (collect_more f n p)) ∙ member_union (collect f n) (2 ^ n) k ∙ ap₂ ◌||◌ ih (member_bit n k) ∙ joined q
      where
        joined : (eqb k n ≡ true) ⊎ (eqb k n ≡ false) → ((ltb k n && f k) || eqb k n) ≡ (ltb k (suc n) && f k)
        joined (inl e) =
            let h : k ≡ n = eqb-true k n e in
            ap₂ (λ a b. (a && f k) || b) (le-ltb k n (omega arith)) e ∙ sym (ap₂ ◌&&◌ (lt-ltb k (suc n) (omega arith)) (ap f h ∙ p))
        joined (inr e) =
            ap (λ b. (ltb k n && f k) || b) e ∙ or-false (ltb k n && f k) ∙ ap (λ b. b && f k) (lt_skip k n (eqb-false k n e))
    by ih (inr p) (inl e) =
        let h : k ≡ n = eqb-true k n e in
        let z : f k ≡ false = ap f h ∙ p in
        ap (λ (x : ℕ). member x k) (sym (collect_less f n p))
        ∙ ih
        ∙ ap₂ ◌&&◌ (le-ltb k n (omega arith)) z
        ∙ sym (ap₂ ◌&&◌ (lt-ltb k (suc n) (omega arith)) z)
    by ih (inr p) (inr e) =
        ap (λ (x : ℕ). member x k) (sym (collect_less f n p)) ∙ ih ∙ ap (λ b. b && f k) (lt_skip k n (eqb-false k n e))

-- a loop's step
pub collect_step : (f : ℕ → Bool) (n : ℕ) → add (collect f n) n (f n) ≡ collect f (n + 1)
unfolding add
collect_step f n = by (f n) refl ∙ ap (collect f) (sym (add-one n))
  where
    by : (b : Bool) → f n ≡ b → cond b (union (collect f n) (2 ^ n)) (collect f n) ≡ collect f (suc n)
    by true p = collect_more f n p
    by false p = collect_less f n p

-- tests that agree below n collect the same
pub collect_ext : (f g : ℕ → Bool) (n : ℕ) → ((k : ℕ) → k < n → f k ≡ g k) → collect f n ≡ collect g n
unfolding collect
collect_ext f g zero h = refl
collect_ext f g (suc n) h =
    ap₂ (λ (x : ℕ) b. x + cond b (2 ^ n) 0) (collect_ext f g n (λ k p. h k (lt_trans p (lt-suc_self n)))) (h n (lt-suc_self n))

-- ---- the numbers beyond a bound

-- all numbers below n
collect_all : (n : ℕ) → collect (λ _. true) n ≡ 2 ^ n - 1
unfolding collect
collect_all zero = refl
collect_all (suc n) =
    let p : 0 < 2 ^ n = pow_pos n in
    let e : collect (λ _. true) n ≡ 2 ^ n - 1 = collect_all n in
    omega (arith, two-pow-succ n)

member_below : (n k : ℕ) → member (2 ^ n - 1) k ≡ ltb k n
member_below n k = ap (λ (s : ℕ). member s k) (sym (collect_all n)) ∙ member_collect (λ _. true) n k ∙ and-true (ltb k n)

pub member_beyond : (w n k : ℕ) → member (beyond w n) k ≡ (ltb k w && not (ltb k n))
unfolding beyond
member_beyond w n = member_collect (λ k. not (ltb k n)) w

-- the complement of those below n, at a width that holds them
pub beyond_complement : (w n : ℕ) → n < w → (2 ^ w - 1) - (2 ^ n - 1) ≡ beyond w n
beyond_complement w n h =
    let p : 0 < 2 ^ w = pow_pos w in
    let q : 2 ^ n ≤ 2 ^ w = pow_mono (le_of_lt h) in
    let c : ℕ = (2 ^ w - 1) - (2 ^ n - 1) in
    let low : c < 2 ^ w = omega (arith, p) in
    let whole : bit_and (2 ^ w - 1) c ≡ c = and_comm (2 ^ w - 1) c ∙ and_mask c w ∙ mod-eq_of_lt low in
    sym whole
    ∙ and_complement w (2 ^ w - 1) (2 ^ n - 1) (omega (arith, p)) (omega (arith, p, q))
    ∙ set_ext (difference (2 ^ w - 1) (2 ^ n - 1)) (beyond w n)
    (λ k. member_difference (2 ^ w - 1) (2 ^ n - 1) k ∙ ap₂ (λ a b. a && not b) (member_below w k) (member_below n k) ∙ sym (member_beyond w n k))

-- none is below w and beyond a bound from w on
pub beyond_none : (w n : ℕ) → w ≤ n → 0 ≡ beyond w n
beyond_none w n h = set_ext 0 (beyond w n) (λ k. member_empty k ∙ sym (member_beyond w n k ∙ by k (passed (ltb k w))))
  where
    by : (k : ℕ) → (ltb k w ≡ true) ⊎ (ltb k w ≡ false) → (ltb k w && not (ltb k n)) ≡ false
    by k (inl e) = ap₂ (λ a b. a && not b) e (lt-ltb k n (lt_of_lt_of_le (ltb-true k w e) h))
    by k (inr e) = ap (λ a. a && not (ltb k n)) e

-- a set of w digits has no member beyond n exactly where it is within n
pub disjoint_beyond : (w n s : ℕ) → s < 2 ^ w → disjoint s (beyond w n) ≡ within n s
disjoint_beyond w n s l = same_test (disjoint s (beyond w n)) (within n s) there back
  where
    there : disjoint s (beyond w n) ≡ true → within n s ≡ true
    there h = member_within n s (λ k p. by k p (passed (ltb k n)))
      where
        by : (k : ℕ) → member s k ≡ true → (ltb k n ≡ true) ⊎ (ltb k n ≡ false) → k < n
        by k p (inl e) = ltb-true k n e
        by k p (inr e) =
            absurd
            (disjoint_member s (beyond w n) h k p
            (member_beyond w n k ∙ ap₂ (λ a b. a && not b) (lt-ltb k w (member_lt w s l k p)) e))

    back : within n s ≡ true → disjoint s (beyond w n) ≡ true
    back h =
        member_disjoint s (beyond w n)
        (λ k p q.
        true≢false
        (sym (lt-ltb k n (within_member n s h k p)) ∙ not-true (ltb k n) (and_right (ltb k w) (not (ltb k n)) (sym (member_beyond w n k) ∙ q))))
