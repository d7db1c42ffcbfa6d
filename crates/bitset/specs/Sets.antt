-- Sets of small numbers, each written as one number: k is in s where binary digit k of s is 1. Document 01: "A marking is one
-- 64-bit number, bit k for place k", and a set of transitions is such a number too. Nothing here speaks of a width but `beyond`.
-- Assumes nothing.
use Rattle.std.specs.Prelude.{ℕ, zero, suc, ◌+◌, ◌-◌, ◌*◌, ◌/◌, ◌%◌, ◌^◌, Bool, cond, not, List, [], ◌∷◌, ◌++◌, eqb, ltb}
use Rattle.std.specs.Int.Bits.{bit_and, bit_or}

-- k is in s
unfoldable pub member : ℕ → ℕ → Bool
member s k = eqb (s / 2 ^ k % 2) 1

-- each member of a is in b
unfoldable pub subset : ℕ → ℕ → Bool
subset a b = eqb (bit_and a b) a

-- a and b share no member
unfoldable pub disjoint : ℕ → ℕ → Bool
disjoint a b = eqb (bit_and a b) 0

-- a without the members of b
unfoldable pub difference : ℕ → ℕ → ℕ
difference a b = a - bit_and a b

-- the members of a that are in b too
unfoldable pub intersection : ℕ → ℕ → ℕ
intersection a b = bit_and a b

-- the members of a and those of b
unfoldable pub union : ℕ → ℕ → ℕ
union a b = bit_or a b

-- s, with k as a member too where `on`
unfoldable pub add : (s k : ℕ) (on : Bool) → ℕ
add s k on = cond on (union s (2 ^ k)) s

-- each member of s is below n
unfoldable pub within : ℕ → ℕ → Bool
within n s = ltb s (2 ^ n)

-- the set of the numbers below n that pass the test f
unfoldable pub collect : (ℕ → Bool) → ℕ → ℕ
collect f zero = 0
collect f (suc n) = collect f n + cond (f n) (2 ^ n) 0

-- the numbers below n that pass the test f, in rising order
unfoldable pub passing : (ℕ → Bool) → ℕ → List ℕ
passing f zero = []
passing f (suc n) = passing f n ++ cond (f n) (n ∷ []) []

-- the numbers below w that are not below n
unfoldable pub beyond : (w n : ℕ) → ℕ
beyond w n = collect (λ k. not (ltb k n)) w

-- the members of s, each n higher
unfoldable pub shifted : (n s : ℕ) → ℕ
shifted n s = s * 2 ^ n
