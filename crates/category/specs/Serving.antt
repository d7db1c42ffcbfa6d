-- Serves the code's proof only: contracts cite it, no meaning depends on it.
-- Assumes nothing.
use Rattle.std.specs.Prelude.{ℕ, ◌≡◌, ◌+◌, ◌<◌, Bool, not, ◌&&◌, ◌||◌, List, Option, MatchOption, get_or, eqb}
use Rattle.tables.specs.Lists.{first}
use Rattle.tables.specs.Below.{every_below}
use Rattle.category.specs.Records.{count}
use Rattle.category.specs.Faults.{good_byte}
use Rattle.category.specs.Labels.{record_of}

-- the byte b may stand after another: it is zero, or good after one that is not zero
unfoldable pub follows : (before b : ℕ) → Bool
follows before b = eqb b 0 || (not (eqb before 0) && good_byte b)

-- each of the 16 bytes after the first of a run may stand after the byte before it
unfoldable pub run_follows : List ℕ → Bool
run_follows run = every_below (λ k. follows (get_or run k 0) (get_or run (k + 1) 0)) 16

-- r is the lowest number below n that passes the test f, or nothing where none does
abbrev pub IsFirst : (ℕ → Bool) → ℕ → Option ℕ → Type 0
IsFirst f n r = MatchOption r (first f n ≡ n) (λ i. (i < n) × (first f n ≡ i))

-- nothing, where the search for the action a answers nothing; else something that is so
abbrev pub IsAnswer : {X : Type 0} → List ℕ → ℕ → Option X → (X → Type 0) → Type 0
IsAnswer file a r IsSo = MatchOption r (record_of file a ≡ count file) (λ x. (record_of file a < count file) × IsSo x)
