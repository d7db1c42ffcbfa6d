-- Tests of all numbers below a bound, and how many pass a test. Assumes nothing.
use Rattle.std.specs.Prelude.{ℕ, zero, suc, ◌+◌, Bool, true, cond, ◌&&◌, eqb, ltb}
use Rattle.tables.specs.Lists.{first}

-- every number below n passes the test f
unfoldable pub every_below : (ℕ → Bool) → ℕ → Bool
every_below f zero = true
every_below f (suc n) = every_below f n && f n

-- no number below n passes the test f
unfoldable pub none_below : (ℕ → Bool) → ℕ → Bool
none_below f n = eqb (first f n) n

-- some number below n passes the test f
unfoldable pub some_below : (ℕ → Bool) → ℕ → Bool
some_below f n = ltb (first f n) n

-- how many numbers below n pass the test f
unfoldable pub count_below : (ℕ → Bool) → ℕ → ℕ
count_below f zero = 0
count_below f (suc n) = count_below f n + cond (f n) 1 0
