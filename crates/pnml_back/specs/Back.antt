-- What is written is of the shape, and reading it gives back places, marking and records (document 02, F-1). Assumes nothing.
use Rattle.std.specs.Prelude.{ℕ, ◌≤◌, ◌<◌, ◌≡◌, List, ◌++◌, length, drop, get_or}
use Rattle.net.specs.Answer.{load_fault}
use Rattle.pnml_shape.specs.Drawing.{pieces}
use Rattle.pnml_shape.specs.Shape.{Spaced, OfShape}
use Rattle.pnml_shape.specs.Theorem.{reading}
use Rattle.pnml_net.specs.Round.{drawn}
use Rattle.pnml_write.specs.Answer.{text_of}
use Rattle.pnml_read.specs.Answer.{Answer, read_answer}

-- granted with these places, this marking and these bytes at the start of the room
abbrev pub same : (places marking : ℕ) (bytes room : List ℕ) → Answer
same places m bytes room =
    record {
      number = 0;
      place = 0;
      places = places;
      marking = m;
      length = length bytes;
      room = bytes ++ drop (length bytes) room;
    }

-- the text of a net with a marking is of the shape; it is read back, and so is the text with any white space after its pieces
pub record Back (places m : ℕ) (bytes : List ℕ) : Type 0 where
  pub shape : OfShape (text_of places m bytes)
  pub plain : (room : List ℕ) → length bytes ≤ length room → read_answer (reading (text_of places m bytes)) room ≡ same places m bytes room
  pub spaced : (text room : List ℕ) → Spaced (pieces (drawn places m bytes)) text → length bytes ≤ length room
      → read_answer (reading text) room ≡ same places m bytes room

-- for all bytes in which loading finds no fault
abbrev pub ReadBack : Type 0
ReadBack = (places m : ℕ) (bytes : List ℕ) → (load_fault places m bytes).number ≡ 0 → ((i : ℕ) → get_or bytes i 0 < 256) → Back places m bytes
