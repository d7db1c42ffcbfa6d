-- Serves the code's proof: contracts cite it, no meaning depends on it. What the functions say of the words and numbers that they find.
-- Assumes nothing.
use Rattle.std.specs.Prelude.{ℕ, ◌+◌, ◌≤◌, ◌<◌, ◌≡◌, Bool, false, ◌||◌, List, ◌++◌, length, drop, get_or, ltb}
use Rattle.texts.specs.Text.{decimal}
use Rattle.pnml_shape.specs.Machine.{digit}

-- n bytes of t from k on are those of w from i on
pub record Alike (t : List ℕ) (k : ℕ) (w : List ℕ) (i n : ℕ) : Type 0 where
  pub each : (j : ℕ) → j < n → get_or t (k + j) 0 ≡ get_or w (i + j) 0

-- the bytes of w from `from` to `to` stand in t, which has w's first at an offset
pub record From (t : List ℕ) (at : ℕ) (w : List ℕ) (from to : ℕ) : Type 0 where
  pub each : (j : ℕ) → from ≤ j → j < to → get_or t (at + j) 0 ≡ get_or w j 0

-- all of them
pub record There (t : List ℕ) (at : ℕ) (w : List ℕ) : Type 0 where
  pub inside : at + length w ≤ length t
  pub same : From t at w 0 (length w)

-- no digit
unfoldable pub other : ℕ → Bool
other b = ltb b 48 || ltb 57 b

-- the bytes from an offset to k are those of v
pub record Begun (t : List ℕ) (at k v : ℕ) : Type 0 where
  pub inside : k ≤ length t
  pub text : drop at t ≡ decimal v ++ drop k t
  pub size : k ≡ at + length (decimal v)

-- they are, v is from lo to hi, and a byte follows that is no digit
pub record Read (t : List ℕ) (at lo hi k v : ℕ) : Type 0 where
  pub begun : Begun t at k v
  pub low : lo ≤ v
  pub high : v ≤ hi
  pub follows : k < length t
  pub over : digit (get_or t k 0) ≡ false
