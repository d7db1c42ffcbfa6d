-- Lists given by their entries, and the first number that passes a test: what a loop that fills an array, or looks for the first fault,
-- holds. For any length. Assumes nothing.
use mathlib.Core.Path.{◌≡◌, refl, sym, ap, ap₂, ◌∙◌}
use mathlib.Core.Bool.{Bool, true, false, cond}
use mathlib.Core.Logic.{◌⊎◌, inl, inr}
use mathlib.Core.List.{List, ◌∷◌}
use Prim.Native.Nat.{ℕ, zero, suc, ◌+◌, ◌≤◌, ◌<◌, zero-le, suc-le-suc}
use native.Mathlib.Nat.{not-suc-le-zero, le_of_suc-le-suc, lt_of_lt_of_le}
use native.Mathlib.Omega.{arith}
use lib.ListN.{length, get_or, set, replicate}
use lib.Dec.{ltb}
use borrow.Author.Tests.{lt-ltb, le-ltb, ltb-true, ltb-false}
use Rattle.tables.specs.Lists.{tab, up_to, first}

-- ---- entries

pub length_tab : (f : ℕ → ℕ) (n : ℕ) → length (tab f n) ≡ n
unfolding tab
length_tab f zero = refl
length_tab f (suc n) = ap suc (length_tab (λ i. f (suc i)) n)

pub get_d_tab : (f : ℕ → ℕ) (n i d : ℕ) → i < n → get_or (tab f n) i d ≡ f i
unfolding tab
get_d_tab f zero i d h = absurd (not-suc-le-zero h)
get_d_tab f (suc n) zero d h = refl
get_d_tab f (suc n) (suc i) d h = get_d_tab (λ j. f (suc j)) n i d (le_of_suc-le-suc h)

pub tab_ext : (f g : ℕ → ℕ) (n : ℕ) → ((i : ℕ) → i < n → f i ≡ g i) → tab f n ≡ tab g n
unfolding tab
tab_ext f g zero h = refl
tab_ext f g (suc n) h =
    ap₂ ◌∷◌ (h 0 (suc-le-suc zero-le)) (tab_ext (λ i. f (suc i)) (λ i. g (suc i)) n (λ i p. h (suc i) (suc-le-suc p)))

-- storing f n at n
pub tab_set : (f g : ℕ → ℕ) (n k : ℕ) → n < k → ((i : ℕ) → (i ≡ n → ⊥) → f i ≡ g i) → set (tab f k) n (g n) ≡ tab g k
unfolding tab
tab_set f g n zero h e = absurd (not-suc-le-zero h)
tab_set f g zero (suc k) h e = ap₂ ◌∷◌ refl (tab_ext (λ i. f (suc i)) (λ i. g (suc i)) k (λ i _. e (suc i) (λ q. omega arith)))
tab_set f g (suc n) (suc k) h e =
    ap₂ ◌∷◌ (e 0 (λ q. omega arith)) (tab_set (λ i. f (suc i)) (λ i. g (suc i)) n k (le_of_suc-le-suc h) (λ i d. e (suc i) (λ q. d (omega arith))))

up_to_in : (f : ℕ → ℕ) (n i : ℕ) → i < n → up_to f n i ≡ f i
unfolding up_to
up_to_in f n i h = ap (λ b. cond b (f i) 0) (lt-ltb i n h)

up_to_out : (f : ℕ → ℕ) (n i : ℕ) → n ≤ i → up_to f n i ≡ 0
unfolding up_to
up_to_out f n i h = ap (λ b. cond b (f i) 0) (le-ltb i n h)

up_to_skip : (f : ℕ → ℕ) (n i : ℕ) → (i ≡ n → ⊥) → up_to f n i ≡ up_to f (n + 1) i
up_to_skip f n i d = by (test (ltb i n) refl)
  where
    test : (b : Bool) → ltb i n ≡ b → (ltb i n ≡ true) ⊎ (ltb i n ≡ false)
    test true e = inl e
    test false e = inr e

    by : (ltb i n ≡ true) ⊎ (ltb i n ≡ false) → up_to f n i ≡ up_to f (n + 1) i
    by (inl e) = let l : i < n = ltb-true i n e in up_to_in f n i l ∙ sym (up_to_in f (n + 1) i (omega arith))
    by (inr e) = let l : n ≤ i = ltb-false i n e in up_to_out f n i l ∙ sym (up_to_out f (n + 1) i (omega arith))

-- an array of k entries that holds f below n, after v, which is f n, is stored at n
pub grow : (f : ℕ → ℕ) (n k v : ℕ) (l : List ℕ) → n < k → l ≡ tab (up_to f n) k → v ≡ f n → set l n v ≡ tab (up_to f (n + 1)) k
grow f n k v l h e q =
    ap₂ (λ x y. set x n y) e (q ∙ sym (up_to_in f (n + 1) n (omega arith))) ∙ tab_set (up_to f n) (up_to f (n + 1)) n k h (up_to_skip f n)

-- an array of zeros holds none of f
pub zeros : (f : ℕ → ℕ) (k : ℕ) → replicate k 0 ≡ tab (up_to f 0) k
unfolding tab
zeros f k = all k ∙ tab_ext (λ _. 0) (up_to f 0) k (λ i _. sym (up_to_out f 0 i zero-le))
  where
    all : (n : ℕ) → replicate n 0 ≡ tab (λ _. 0) n
    all zero = refl
    all (suc n) = ap (λ l. 0 ∷ l) (all n)

pub get_d_up_to : (f : ℕ → ℕ) (n k i : ℕ) → i < n → n ≤ k → get_or (tab (up_to f n) k) i 0 ≡ f i
get_d_up_to f n k i h p = get_d_tab (up_to f n) k i 0 (omega arith) ∙ up_to_in f n i h

-- ---- the first that passes

pub first_is : (f : ℕ → Bool) (n i : ℕ) → i < n → ((k : ℕ) → k < i → f k ≡ false) → f i ≡ true → first f n ≡ i
unfolding first
first_is f zero i h p q = absurd (not-suc-le-zero h)
first_is f (suc n) zero h p q = ap (λ b. cond b 0 (suc (first (λ i. f (suc i)) n))) q
first_is f (suc n) (suc i) h p q =
    ap (λ b. cond b 0 (suc (first (λ i. f (suc i)) n))) (p 0 (suc-le-suc zero-le))
    ∙ ap suc (first_is (λ j. f (suc j)) n i (le_of_suc-le-suc h) (λ k l. p (suc k) (suc-le-suc l)) q)

pub first_none : (f : ℕ → Bool) (n : ℕ) → ((k : ℕ) → k < n → f k ≡ false) → first f n ≡ n
unfolding first
first_none f zero p = refl
first_none f (suc n) p =
    ap (λ b. cond b 0 (suc (first (λ i. f (suc i)) n))) (p 0 (suc-le-suc zero-le))
    ∙ ap suc (first_none (λ j. f (suc j)) n (λ k l. p (suc k) (suc-le-suc l)))

-- tests that agree below n have the same first
pub first_ext : (f g : ℕ → Bool) (n : ℕ) → ((k : ℕ) → k < n → f k ≡ g k) → first f n ≡ first g n
unfolding first
first_ext f g zero h = refl
first_ext f g (suc n) h =
    ap₂ (λ b (k : ℕ). cond b 0 (suc k)) (h 0 (suc-le-suc zero-le)) (first_ext (λ i. f (suc i)) (λ i. g (suc i)) n (λ k l. h (suc k) (suc-le-suc l)))

-- a loop that found none below i, with i not below n
pub first_out : (f : ℕ → Bool) (n i : ℕ) → n ≤ i → ((k : ℕ) → k < i → f k ≡ false) → first f n ≡ n
first_out f n i h p = first_none f n (λ k l. p k (lt_of_lt_of_le l h))

-- before the first none passes
pub before_first : (f : ℕ → Bool) (n k : ℕ) → k < first f n → f k ≡ false
unfolding first
before_first f zero k h = absurd (not-suc-le-zero h)
before_first f (suc n) k h = by (before_first (λ i. f (suc i)) n) (f 0) refl k h
  where
    by : ((j : ℕ) → j < first (λ i. f (suc i)) n → f (suc j) ≡ false) → (b : Bool) → f 0 ≡ b → (k : ℕ)
        → k < cond b 0 (suc (first (λ i. f (suc i)) n)) → f k ≡ false
    by ih true e k h = absurd (not-suc-le-zero h)
    by ih false e zero h = e
    by ih false e (suc k) h = ih k (le_of_suc-le-suc h)

-- where there is one below n, it passes
pub at_first : (f : ℕ → Bool) (n : ℕ) → first f n < n → f (first f n) ≡ true
unfolding first
at_first f zero h = absurd (not-suc-le-zero h)
at_first f (suc n) h = by (at_first (λ i. f (suc i)) n) (f 0) refl h
  where
    by : (first (λ i. f (suc i)) n < n → f (suc (first (λ i. f (suc i)) n)) ≡ true) → (b : Bool) → f 0 ≡ b
        → cond b 0 (suc (first (λ i. f (suc i)) n)) < suc n → f (cond b 0 (suc (first (λ i. f (suc i)) n))) ≡ true
    by ih true e h = e
    by ih false e h = ih (le_of_suc-le-suc h)

pub first_le : (f : ℕ → Bool) (n : ℕ) → first f n ≤ n
unfolding first
first_le f zero = zero-le
first_le f (suc n) = by (first_le (λ i. f (suc i)) n) (f 0)
  where
    by : first (λ i. f (suc i)) n ≤ n → (b : Bool) → cond b 0 (suc (first (λ i. f (suc i)) n)) ≤ suc n
    by h true = zero-le
    by h false = suc-le-suc h
