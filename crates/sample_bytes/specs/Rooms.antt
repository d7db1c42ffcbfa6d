-- What a room holds. Assumes nothing.
use Rattle.std.specs.Prelude.{ℕ, zero, suc, ◌+◌, ◌*◌, ◌%◌, cond, List, [], ◌∷◌, get_or, eqb}

-- how many of the first n bytes are b
unfoldable pub count : (b : ℕ) → List ℕ → ℕ → ℕ
count b l zero = 0
count b l (suc n) = cond (eqb (get_or l n 0) b) (count b l n + 1) (count b l n)

-- how many first bytes are the same
unfoldable pub alike : List ℕ → List ℕ → ℕ
alike [] m = 0
alike (a ∷ l) [] = 0
alike (a ∷ l) (b ∷ m) = cond (eqb a b) (suc (alike l m)) 0

-- the sum of the first n bytes, each by its place
unfoldable pub checksum : List ℕ → ℕ → ℕ
checksum l zero = 0
checksum l (suc n) = (checksum l n * 257 + get_or l n 0) % 1000003
