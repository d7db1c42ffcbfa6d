-- A line in a buffer of 40 bytes, and the lines that more than one program writes. Assumes nothing.
use Rattle.std.specs.Prelude.{ℕ, ◌+◌, ◌≤◌, ◌≡◌, List, ◌++◌, length}
use Rattle.std.proofs.lemmas.List.Edits.{sets}
use Rattle.texts.specs.Text.{bytes, decimal}

-- a call that writes vs into a buffer of 40 bytes from an index on, and answers the index after it: the bytes there are vs, and all others stay
pub record Put (before after : List ℕ) (at : ℕ) (vs : List ℕ) (r : ℕ) : Type 0 where
  pub next : r ≡ at + length vs
  pub room : r ≤ 40
  pub bytes : after ≡ sets before at vs

-- a word, a number, " at " and a place
unfoldable pub placed_line : (word : List ℕ) (number place : ℕ) → List ℕ
placed_line w n p = w ++ decimal n ++ bytes " at " ++ decimal p ++ bytes "\n"

-- "unread NAME"
unfoldable pub unread_named : (name : List ℕ) → List ℕ
unread_named name = bytes "unread " ++ name ++ bytes "\n"
