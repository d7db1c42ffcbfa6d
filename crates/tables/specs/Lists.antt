-- Lists by their entries, and the first entry that is at fault. Assumes nothing.
use Rattle.std.specs.Prelude.{ℕ, zero, suc, Bool, cond, List, [], ◌∷◌, ◌++◌, ltb}

-- f 0, f 1, .. up to n entries
unfoldable pub tab : (ℕ → ℕ) → ℕ → List ℕ
tab f zero = []
tab f (suc n) = f 0 ∷ tab (λ i. f (suc i)) n

-- e 0, e 1, .. up to n lists, one after another
unfoldable pub laid : (ℕ → List ℕ) → ℕ → List ℕ
laid e zero = []
laid e (suc n) = laid e n ++ e n

-- f below n, and zero from n on
unfoldable pub up_to : (ℕ → ℕ) → ℕ → ℕ → ℕ
up_to f n i = cond (ltb i n) (f i) 0

-- the lowest number below n that passes the test f; n where none does
unfoldable pub first : (ℕ → Bool) → ℕ → ℕ
first f zero = 0
first f (suc n) = cond (f 0) 0 (suc (first (λ i. f (suc i)) n))
