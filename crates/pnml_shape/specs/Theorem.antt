-- What is proved of the machine and the shape (proofs/Exact, proofs/Complete). Assumes nothing.
use Rattle.std.specs.Prelude.{◌≡◌, true, List, ℕ}
use Rattle.pnml_shape.specs.Drawing.{Drawing, good, written}
use Rattle.pnml_shape.specs.Shape.{Draws, Leaves}
use Rattle.pnml_shape.specs.Machine.{Outcome, stopped, drawn, start, scan}

-- the machine's outcome for a text
unfoldable pub reading : List ℕ → Outcome
reading s = scan start 0 s

-- what an outcome says of a text: it draws this, or leaves the shape at this offset
abbrev pub Right : List ℕ → Outcome → Type 0
Right s (stopped k) = Leaves s k
Right s (drawn d) = Draws s d

-- the outcome is right for every text, no other is, and the written text of a good drawing is read as that drawing
pub record Exact : Type 0 where
  pub right : (s : List ℕ) → Right s (reading s)
  pub only : (s : List ℕ) (o : Outcome) → Right s o → o ≡ reading s
  pub back : (d : Drawing) → good d ≡ true → reading (written d) ≡ drawn d
