-- Tests of all numbers below a bound: what they say of each number, what a loop over the numbers holds, and how many pass. For any test. Assumes nothing.
use mathlib.Core.Path.{◌≡◌, refl, sym, ap, ap₂, ◌∙◌, subst}
use mathlib.Core.Bool.{Bool, true, false, cond, ◌&&◌, true≢false}
use mathlib.Core.Logic.{◌⊎◌, inl, inr}
use Prim.Native.Nat.{ℕ, zero, suc, ◌+◌, ◌≤◌, ◌<◌, zero-le}
use native.Mathlib.Nat.{not-suc-le-zero, lt-suc_self, lt_trans, le_antisymm, le_refl, le_trans, le_of_eq, add-zero}
use native.Mathlib.Numerals.{add-one}
use native.Mathlib.Omega.{arith}
use lib.Dec.{eqb, ltb}
use borrow.Author.Tests.{eqb-true, eqb-false, eq-eqb, lt-ltb, ltb-true, ltb-false}
use Rattle.tables.specs.Lists.{first}
use Rattle.tables.specs.Below.{every_below, none_below, some_below, count_below}
use Rattle.tables.proofs.Tests.{and_left, and_right, and_intro, passed, failed}
use Rattle.tables.proofs.Entries.{first_none, before_first}

-- two numbers
pub lt_or_ge : (a b : ℕ) → (a < b) ⊎ (b ≤ a)
lt_or_ge a b = by (ltb a b) refl
  where
    by : (t : Bool) → ltb a b ≡ t → (a < b) ⊎ (b ≤ a)
    by true e = inl (ltb-true a b e)
    by false e = inr (ltb-false a b e)

module _ (f : ℕ → Bool) where
  -- ---- every

  pub every_at : (n k : ℕ) → every_below f n ≡ true → k < n → f k ≡ true
  unfolding every_below
  every_at zero k h l = absurd (not-suc-le-zero l)
  every_at (suc n) k h l = by (every_at n k (and_left (every_below f n) (f n) h)) (passed (eqb k n))
    where
      by : (k < n → f k ≡ true) → (eqb k n ≡ true) ⊎ (eqb k n ≡ false) → f k ≡ true
      by ih (inl e) = ap f (eqb-true k n e) ∙ and_right (every_below f n) (f n) h
      by ih (inr e) = let d : k ≡ n → ⊥ = eqb-false k n e in ih (omega arith)

  pub every_is : (n : ℕ) → ((k : ℕ) → k < n → f k ≡ true) → every_below f n ≡ true
  unfolding every_below
  every_is zero h = refl
  every_is (suc n) h = and_intro (every_below f n) (f n) (every_is n (λ k l. h k (lt_trans l (lt-suc_self n)))) (h n (lt-suc_self n))

  -- a loop over the numbers: none is tested, one more is, all are
  pub every_start : true ≡ every_below f 0
  unfolding every_below
  every_start = refl

  pub every_next : (n : ℕ) {ok b : Bool} → ok ≡ every_below f n → b ≡ f n → (ok && b) ≡ every_below f (n + 1)
  unfolding every_below
  every_next n p q = ap₂ ◌&&◌ p q ∙ ap (every_below f) (sym (add-one n))

  pub every_done : (n j : ℕ) {ok : Bool} → ok ≡ every_below f j → j ≤ n → n ≤ j → ok ≡ every_below f n
  every_done n j p a b = p ∙ ap (every_below f) (le_antisymm a b)

  -- one number fails, which ends such a loop
  pub every_not : (n k : ℕ) → k < n → f k ≡ false → every_below f n ≡ false
  every_not n k l e = failed (every_below f n) (λ h. true≢false (sym (every_at n k h l) ∙ e))

  -- ---- some and none

  pub first_below : (n k : ℕ) → k < n → f k ≡ true → first f n < n
  first_below n k l e = by (lt_or_ge k (first f n))
    where
      by : (k < first f n) ⊎ (first f n ≤ k) → first f n < n
      by (inl h) = absurd (true≢false (sym e ∙ before_first f n k h))
      by (inr h) = omega arith

  pub some_is : (n k : ℕ) → k < n → f k ≡ true → some_below f n ≡ true
  unfolding some_below
  some_is n k l e = lt-ltb (first f n) n (first_below n k l e)

  pub none_is : (n : ℕ) → ((k : ℕ) → k < n → f k ≡ false) → none_below f n ≡ true
  unfolding none_below
  none_is n h = eq-eqb (first f n) n (first_none f n h)

  pub none_at : (n k : ℕ) → none_below f n ≡ true → k < n → f k ≡ false
  unfolding none_below
  none_at n k e l = before_first f n k (subst (λ (x : ℕ). k < x) (sym (eqb-true (first f n) n e)) l)

  -- ---- how many

  pub count_next : (n : ℕ) → f n ≡ true → count_below f (suc n) ≡ suc (count_below f n)
  unfolding count_below
  count_next n e = ap (λ b. count_below f n + cond b 1 0) e ∙ add-one (count_below f n)

  pub count_skip : (n : ℕ) → f n ≡ false → count_below f (suc n) ≡ count_below f n
  unfolding count_below
  count_skip n e = ap (λ b. count_below f n + cond b 1 0) e ∙ add-zero (count_below f n)

  -- one more number adds one at most
  count_step : (n : ℕ) → (count_below f n ≤ count_below f (suc n)) × (count_below f (suc n) ≤ suc (count_below f n))
  count_step n = by (passed (f n))
    where
      by : (f n ≡ true) ⊎ (f n ≡ false) → (count_below f n ≤ count_below f (suc n)) × (count_below f (suc n) ≤ suc (count_below f n))
      by (inl e) = let q : count_below f (suc n) ≡ suc (count_below f n) = count_next n e in (omega arith, omega arith)
      by (inr e) = let q : count_below f (suc n) ≡ count_below f n = count_skip n e in (omega arith, omega arith)

  pub count_most : (n : ℕ) → count_below f n ≤ n
  unfolding count_below
  count_most zero = le_refl 0
  count_most (suc n) = let l : count_below f n ≤ n = count_most n in let s = (count_step n).1 in omega arith

  pub count_rises : (m n : ℕ) → m ≤ n → count_below f m ≤ count_below f n
  count_rises m zero h = le_of_eq (ap (count_below f) (le_antisymm h zero-le))
  count_rises m (suc n) h = by (count_rises m n) (lt_or_ge n m)
    where
      by : (m ≤ n → count_below f m ≤ count_below f n) → (n < m) ⊎ (m ≤ n) → count_below f m ≤ count_below f (suc n)
      by ih (inl l) = le_of_eq (ap (count_below f) (le_antisymm h l))
      by ih (inr l) = let r : count_below f m ≤ count_below f n = ih l in let s = (count_step n).0 in omega arith

  -- one that passes counts for all above it
  pub count_above : (k n : ℕ) → k < n → f k ≡ true → count_below f k < count_below f n
  count_above k n h e =
      let s : count_below f (suc k) ≡ suc (count_below f k) = count_next k e in
      let r : count_below f (suc k) ≤ count_below f n = count_rises (suc k) n h in
      omega arith

  pub count_all : (n : ℕ) → ((k : ℕ) → k < n → f k ≡ true) → count_below f n ≡ n
  unfolding count_below
  count_all zero h = refl
  count_all (suc n) h = count_next n (h n (lt-suc_self n)) ∙ ap suc (count_all n (λ k l. h k (lt_trans l (lt-suc_self n))))

  -- the numbers from m on fail
  pub count_rest : (m n : ℕ) → m ≤ n → ((k : ℕ) → m ≤ k → k < n → f k ≡ false) → count_below f n ≡ count_below f m
  count_rest m zero h z = ap (count_below f) (le_antisymm zero-le h)
  count_rest m (suc n) h z = by (count_rest m n) (lt_or_ge n m)
    where
      by : (m ≤ n → ((k : ℕ) → m ≤ k → k < n → f k ≡ false) → count_below f n ≡ count_below f m) → (n < m) ⊎ (m ≤ n)
          → count_below f (suc n) ≡ count_below f m
      by ih (inl l) = ap (count_below f) (le_antisymm l h)
      by ih (inr l) = count_skip n (z n l (lt-suc_self n)) ∙ ih l (λ k p q. z k p (lt_trans q (lt-suc_self n)))

  -- each number below the count is that of one that passes
  pub count_at : (n i : ℕ) → i < count_below f n → (k : ℕ) × (k < n) × (f k ≡ true) × (count_below f k ≡ i)
  count_at zero i h = absurd (not-suc-le-zero (le_trans h (count_most 0)))
  count_at (suc n) i h = by (count_at n i) (lt_or_ge i (count_below f n)) (passed (f n))
    where
      by : (i < count_below f n → (k : ℕ) × (k < n) × (f k ≡ true) × (count_below f k ≡ i)) → (i < count_below f n) ⊎ (count_below f n ≤ i)
          → (f n ≡ true) ⊎ (f n ≡ false) → (k : ℕ) × (k < suc n) × (f k ≡ true) × (count_below f k ≡ i)
      by ih (inl l) q = let r = ih l in (r.0, lt_trans r.1 (lt-suc_self n), r.2, r.3)
      by ih (inr l) (inl e) = let s : count_below f (suc n) ≡ suc (count_below f n) = count_next n e in (n, lt-suc_self n, e, omega arith)
      by ih (inr l) (inr e) = absurd (let s : count_below f (suc n) ≡ count_below f n = count_skip n e in omega arith)

-- tests that agree below n count the same
pub count_ext : (f g : ℕ → Bool) (n : ℕ) → ((k : ℕ) → k < n → f k ≡ g k) → count_below f n ≡ count_below g n
unfolding count_below
count_ext f g zero h = refl
count_ext f g (suc n) h =
    ap₂ (λ (c : ℕ) b. c + cond b 1 0) (count_ext f g n (λ k l. h k (lt_trans l (lt-suc_self n)))) (h n (lt-suc_self n))
