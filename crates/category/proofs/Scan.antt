-- A search for the lowest number that passes a test: for any test. Assumes nothing.
use mathlib.Core.Path.{◌≡◌, sym}
use mathlib.Core.Bool.{Bool, true, false}
use mathlib.Core.Logic.{◌⊎◌}
use Prim.Native.Nat.{ℕ, ◌+◌, ◌≤◌, ◌<◌}
use native.Mathlib.Nat.{eq-or-lt_of_le}
use native.Mathlib.Omega.{arith}
use Rattle.std.proofs.Common.{Option, Some, None, MatchOption}
use Rattle.std.specs.Option.{unwrap_or}
use Rattle.tables.specs.Lists.{first}
use Rattle.category.specs.Serving.{IsFirst}
use Rattle.tables.proofs.Entries.{first_is, first_none}

-- a number below i + 1
pub last_or_before : (i k : ℕ) → k < i + 1 → (k ≡ i) ⊎ (k < i)
last_or_before i k l = let h : k ≤ i = omega arith in eq-or-lt_of_le h

-- what a search among the numbers from `from` on and below n answers: no number, or the lowest that passes the test
abbrev pub Searched : (ℕ → Bool) → (from n : ℕ) → Option ℕ → Type 0
Searched f from n r =
    MatchOption r ((k : ℕ) → from ≤ k → k < n → f k ≡ false)
    (λ i. (from ≤ i) × (i < n) × (f i ≡ true) × ((k : ℕ) → from ≤ k → k < i → f k ≡ false))

-- a search from 0 on
pub searched_first : (f : ℕ → Bool) (n : ℕ) (r : Option ℕ) → Searched f 0 n r → IsFirst f n r
searched_first f n None h = first_none f n (λ k l. h k (omega arith) l)
searched_first f n (Some i) h = (h.1, first_is f n i h.1 (λ k l. h.3 k (omega arith) l) h.2)

-- what it answers, or n where it answers nothing
pub first_or : (f : ℕ → Bool) (n : ℕ) (r : Option ℕ) → IsFirst f n r → unwrap_or r n ≡ first f n
first_or f n None h = sym h
first_or f n (Some i) h = sym h.1
