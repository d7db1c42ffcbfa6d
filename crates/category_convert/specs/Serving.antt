-- Serves the code's proof only: contracts cite it, no meaning depends on it.
-- Assumes nothing.
use Rattle.std.specs.Prelude.{ℕ, ◌≤◌, ◌<◌, ◌≡◌, Bool, true, false, not, List}
use Rattle.std.specs.Bool.{MatchBool}
use Rattle.tables.specs.Lists.{first}
use Rattle.category.specs.Records.{count, action_at}
use Rattle.category.specs.Faults.{ascends}

-- r says whether some number from `from` on and below n passes the test f
abbrev pub SomeFrom : (ℕ → Bool) → (from n : ℕ) → Bool → Type 0
SomeFrom f from n r = MatchBool r ((k : ℕ) × (from ≤ k) × (k < n) × (f k ≡ true)) ((k : ℕ) → from ≤ k → k < n → f k ≡ false)

-- how many records at the start of the file have strictly ascending actions
unfoldable pub ascending_prefix : List ℕ → ℕ
ascending_prefix file = first (λ i. not (ascends file i)) (count file)

-- of the first n records those before r have actions below a, and the others have not
pub record LowerBound (file : List ℕ) (a n r : ℕ) : Type 0 where
  pub end : r ≤ n
  pub below : (k : ℕ) → k < r → action_at file k < a
  pub above : (k : ℕ) → r ≤ k → k < n → a ≤ action_at file k
