-- A file written record by record. Assumes nothing.
use Prim.Native.Nat.{ℕ, ◌+◌, ◌*◌, ◌%◌}
use mathlib.Core.Path.{◌≡◌}
use mathlib.Core.List.{List, [], ◌∷◌}
use native.Mathlib.Numerals.{add-one}
use lib.Seq.{sets}
use Rattle.sample_labels.specs.Files.{record_of, filled}

-- one record more
pub filled_next : (file before after : List ℕ) (i : ℕ) → before ≡ filled i file
    → after ≡ sets before (i * 32) (record_of i 0 0 ((65 + i % 26) ∷ [])) → after ≡ filled (i + 1) file
unfolding filled
filled_next file before after i b a = rw (add-one, a, b)
