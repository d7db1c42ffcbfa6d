-- A test of each number of a range, from the first on, is a test of all numbers below its end. Assumes nothing.
use mathlib.Core.Path.{◌≡◌, refl, sym, ap, ap₂, ◌∙◌}
use mathlib.Core.Bool.{Bool, ◌&&◌, and-true, and_assoc}
use Prim.Native.Nat.{ℕ, zero, suc, ◌+◌}
use native.Mathlib.Nat.{add-zero, zero-add}
use native.Mathlib.Omega.{arith}
use Rattle.std.specs.List.{list_all, range_with_len}
use Rattle.tables.specs.Below.{every_below}

-- the first number, and then the others
first_then : (f : ℕ → Bool) (n : ℕ) → every_below f (suc n) ≡ (f 0 && every_below (λ k. f (suc k)) n)
unfolding every_below
first_then f zero = sym (and-true (f 0))
first_then f (suc n) = ap (λ b. b && f (suc n)) (first_then f n) ∙ and_assoc (f 0) (every_below (λ k. f (suc k)) n) (f (suc n))

next : (a k : ℕ) → a + 1 + k ≡ a + suc k
next a k = omega arith

-- the numbers from a on
from_on : (f : ℕ → Bool) (a n : ℕ) → list_all f (range_with_len a n) ≡ every_below (λ k. f (a + k)) n
unfolding every_below
from_on f a zero = refl
from_on f a (suc n) =
    ap₂ ◌&&◌ (ap f (sym (add-zero a))) (from_on f (a + 1) n ∙ λ i. every_below (λ k. f (next a k i)) n)
    ∙ sym (first_then (λ k. f (a + k)) n)

-- all numbers
pub all_below : (f : ℕ → Bool) (n : ℕ) → list_all f (range_with_len 0 n) ≡ every_below f n
all_below f n = from_on f 0 n ∙ λ i. every_below (λ k. f (zero-add k i)) n
