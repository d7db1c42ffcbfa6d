-- Answers in numbers. Assumes nothing.
use mathlib.Core.Path.{◌≡◌}
use mathlib.Core.List.{List}
use Prim.Native.Nat.{ℕ}
use Rattle.pnml_write.specs.Answer as writing
use Rattle.pnml_read.specs.Answer as reading
use Rattle.pnml_write.specs.declared.Numbers.{Numbers as Written}
use Rattle.pnml_read.specs.declared.Numbers.{Numbers as Read}
use Rattle.pnml_write.specs.declared.WriteRefusal.{WriteRefusal}
use Rattle.pnml_read.specs.declared.Found.{Found}
use Rattle.pnml_read.specs.declared.ReadRefusal.{ReadRefusal}
use Rattle.std.proofs.Common.{Result}
use Rattle.sample_pnml.specs.Told.{writer, reader}

pub write_told : (w : Result ℕ WriteRefusal) (n : Written) (room : List ℕ) (a : writing.Answer) → writing.answer_of w room ≡ a
    → (n.number ≡ (writing.found_of w).number) × (n.place ≡ (writing.found_of w).place) × (n.length ≡ writing.length_of w) → writer n room ≡ a
write_told w n room a e h = simp (h.0, h.1, h.2) e

pub read_told : (w : Result Found ReadRefusal) (n : Read) (room : List ℕ) (a : reading.Answer) → reading.answer_of w room ≡ a
    → (n.number ≡ reading.number_of w) × (n.place ≡ reading.place_of w) × (n.places ≡ (reading.found_of w).places)
    × (n.marking ≡ (reading.found_of w).marking) × (n.length ≡ (reading.found_of w).length)
    → reader n room ≡ a
read_told w n room a e h = simp (h.0, h.1, h.2, h.3, h.4) e
