-- Lists laid one after another: their length, where each stands and what is read of it, and gaps that are closed. For any lists. Assumes nothing.
use mathlib.Core.Path.{◌≡◌, refl, sym, ap, ap₂, ◌∙◌}
use mathlib.Core.Bool.{Bool, true, false, cond}
use mathlib.Core.Logic.{◌⊎◌, inl, inr}
use mathlib.Core.List.{List, [], ◌++◌, append-nil, append_assoc}
use Prim.Native.Nat.{ℕ, zero, suc, ◌+◌, ◌*◌, ◌≤◌, ◌<◌}
use native.Mathlib.Nat.{add_assoc, not-suc-le-zero, lt-suc_self, lt_trans, le_antisymm, le_of_suc-le-suc}
use native.Mathlib.Omega.{arith}
use lib.ListN.{length, get_or, length-append, get_or-append}
use lib.Seq.{get_or-append-add}
use Rattle.tables.specs.Bytes.{field}
use Rattle.tables.specs.Lists.{laid}
use Rattle.tables.specs.Below.{count_below}
use Rattle.tables.proofs.Below.{lt_or_ge, count_next, count_skip, count_all}
use Rattle.tables.proofs.Parts.{field_same}
use Rattle.tables.proofs.Tests.{passed}

-- those that pass a test have one size, the others are empty
pub laid_length : (e : ℕ → List ℕ) (f : ℕ → Bool) (size n : ℕ) → ((k : ℕ) → k < n → length (e k) ≡ cond (f k) size 0)
    → length (laid e n) ≡ count_below f n * size
unfolding laid count_below
laid_length e f size zero h = let z : 0 ≡ 0 * size = omega arith in z
laid_length e f size (suc n) h =
    length-append (laid e n) (e n)
    ∙ ap₂ ◌+◌ (laid_length e f size n (λ k l. h k (lt_trans l (lt-suc_self n)))) (h n (lt-suc_self n))
    ∙ more (f n)
  where
    more : (b : Bool) → count_below f n * size + cond b size 0 ≡ (count_below f n + cond b 1 0) * size
    more true = omega arith
    more false = omega arith

-- all have one size
pub laid_whole : (e : ℕ → List ℕ) (size n : ℕ) → ((k : ℕ) → k < n → length (e k) ≡ size) → length (laid e n) ≡ n * size
laid_whole e size n h =
    laid_length e (λ _. true) size n h ∙ ap (λ (x : ℕ). x * size) (count_all (λ _. true) n (λ k l. refl))

-- entry k stands after those below it
pub laid_at : (e : ℕ → List ℕ) (n k : ℕ) → k < n → (rest : List ℕ) × (laid e n ≡ laid e k ++ (e k ++ rest))
unfolding laid
laid_at e zero k h = absurd (not-suc-le-zero h)
laid_at e (suc n) k h = by (laid_at e n k) (lt_or_ge k n)
  where
    by : (k < n → (rest : List ℕ) × (laid e n ≡ laid e k ++ (e k ++ rest))) → (k < n) ⊎ (n ≤ k)
        → (rest : List ℕ) × (laid e n ++ e n ≡ laid e k ++ (e k ++ rest))
    by ih (inl l) =
        let r = ih l in
        (r.0 ++ e n, ap (λ x. x ++ e n) r.1 ∙ append_assoc (laid e k) (e k ++ r.0) (e n) ∙ ap (λ x. laid e k ++ x) (append_assoc (e k) r.0 (e n)))
    by ih (inr l) =
        let q : k ≡ n = le_antisymm (le_of_suc-le-suc h) l in
        ([], ap (λ (x : ℕ). laid e x ++ e x) (sym q) ∙ ap (λ x. laid e k ++ x) (sym (append-nil (e k))))

-- what stands in entry k, where all have one size: each byte, and the numbers that are read there
module _ (e : ℕ → List ℕ) (size n : ℕ) (sizes : (k : ℕ) → k < n → length (e k) ≡ size) (k : ℕ) (h : k < n) where
  pub laid_byte : (j : ℕ) → j < size → get_or (laid e n) (k * size + j) 0 ≡ get_or (e k) j 0
  laid_byte j l =
      let s = laid_at e n k h in
      ap (λ x. get_or x (k * size + j) 0) s.1
      ∙ ap (λ (x : ℕ). get_or (laid e k ++ (e k ++ s.0)) (x + j) 0) (sym (laid_whole e size k (λ i m. sizes i (lt_trans m h))))
      ∙ get_or-append-add (laid e k) (e k ++ s.0) j 0
      ∙ get_or-append (e k) s.0 0 j (omega (arith, sizes k h))

  pub laid_field : (w at : ℕ) → at + w ≤ size → field w (k * size + at) (laid e n) ≡ field w at (e k)
  laid_field w at l =
      field_same w (k * size + at) at (laid e n) (e k)
      (λ i p. ap (λ (x : ℕ). get_or (laid e n) x 0) (add_assoc (k * size) at i) ∙ laid_byte (at + i) (omega arith))

-- the same lists
pub laid_ext : (e g : ℕ → List ℕ) (n : ℕ) → ((k : ℕ) → k < n → e k ≡ g k) → laid e n ≡ laid g n
unfolding laid
laid_ext e g zero h = refl
laid_ext e g (suc n) h = ap₂ ◌++◌ (laid_ext e g n (λ k l. h k (lt_trans l (lt-suc_self n)))) (h n (lt-suc_self n))

-- lists that pass a test, numbered anew: the empty ones between them leave no gap
pub laid_closed : (e g : ℕ → List ℕ) (f : ℕ → Bool) (n : ℕ) → ((k : ℕ) → k < n → f k ≡ true → g (count_below f k) ≡ e k)
    → ((k : ℕ) → k < n → f k ≡ false → e k ≡ []) → laid g (count_below f n) ≡ laid e n
unfolding laid
laid_closed e g f zero h z = ap (laid g) (count_all f 0 (λ k l. absurd (not-suc-le-zero l)))
laid_closed e g f (suc n) h z = by (laid_closed e g f n (λ k l. h k (lt_trans l (lt-suc_self n))) (λ k l. z k (lt_trans l (lt-suc_self n)))) (passed (f n))
  where
    by : laid g (count_below f n) ≡ laid e n → (f n ≡ true) ⊎ (f n ≡ false) → laid g (count_below f (suc n)) ≡ laid e n ++ e n
    by ih (inl p) = ap (laid g) (count_next f n p) ∙ ap₂ ◌++◌ ih (h n (lt-suc_self n) p)
    by ih (inr p) = ap (laid g) (count_skip f n p) ∙ ih ∙ sym (append-nil (laid e n)) ∙ ap (λ x. laid e n ++ x) (sym (z n (lt-suc_self n) p))
