-- The texts of the shape, and the offset at which another text leaves it (document 02, F-1). Assumes nothing.
use Rattle.std.specs.Prelude.{ℕ, suc, ◌≤◌, ◌<◌, ◌≡◌, Bool, true, ◌&&◌, ◌||◌, List, [], ◌∷◌, ◌++◌, length, take, eqb}
use Rattle.pnml_shape.specs.Drawing.{Drawing, pieces, good}

-- space, tab, CR, LF
unfoldable pub white : ℕ → Bool
white b = (eqb b 32 || eqb b 9) || (eqb b 13 || eqb b 10)

unfoldable pub all_white : List ℕ → Bool
all_white [] = true
all_white (b ∷ s) = white b && all_white s

-- the text is these pieces, with any white space after each
unfoldable pub Spaced : List (List ℕ) → List ℕ → Type 0
Spaced [] s = s ≡ []
Spaced (p ∷ ps) s = (w r : List ℕ) × (all_white w ≡ true) × (s ≡ p ++ (w ++ r)) × Spaced ps r

-- the text draws d
pub record Draws (s : List ℕ) (d : Drawing) : Type 0 where
  pub fine : good d ≡ true
  pub spaced : Spaced (pieces d) s

-- the text is of the shape
pub record OfShape (s : List ℕ) : Type 0 where
  pub drawing : Drawing
  pub draws : Draws s drawing

-- k is the offset of the first byte of s after which no text of the shape can follow, or the length where s stops short: what stands before k
-- can be continued to a text of the shape, with the byte at k it cannot, and s is none itself
pub record Leaves (s : List ℕ) (k : ℕ) : Type 0 where
  pub inside : k ≤ length s
  pub continues : (rest : List ℕ) × OfShape (take k s ++ rest)
  pub hopeless : k < length s → (rest : List ℕ) → OfShape (take (suc k) s ++ rest) → ⊥
  pub other : OfShape s → ⊥
