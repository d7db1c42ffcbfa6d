-- The formula records that a record reaches through its operands (document 02, F-10). Assumes nothing.
use Rattle.std.specs.Prelude.{ℕ, zero, suc, ◌-◌, ◌≡◌, Bool, true, ◌&&◌, ◌||◌, List, eqb}
use Rattle.pctl.specs.Table.{operator_at, left_at, right_at, has_left, has_right}

-- k is an operand of record g
unfoldable pub names : List ℕ → (g k : ℕ) → Bool
names F g k = (has_left (operator_at F g) && eqb (left_at F g) k) || (has_right (operator_at F g) && eqb (right_at F g) k)

-- record f reaches itself, and the operands of what it reaches
pub data Reaches (F : List ℕ) (f : ℕ) : ℕ → Type 0 where
  itself : Reaches F f f
  operand : {g k : ℕ} → Reaches F f g → names F g k ≡ true → Reaches F f k

-- the same as a test, by one pass: k is f, or an operand of one of the n records from f down that are reached themselves
unfoldable pub known : List ℕ → (f n k : ℕ) → Bool
known F f zero k = eqb k f
known F f (suc n) k = known F f n k || (known F f n (f - n) && names F (f - n) k)

-- operands are lower, so the pass from f down to record 0 finds all
unfoldable pub reached : List ℕ → (f k : ℕ) → Bool
reached F f k = known F f (suc f) k
