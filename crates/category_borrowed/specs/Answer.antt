-- The converter's answer, by the numbers of documents 01 and 02 (F-6). Assumes nothing.
use Rattle.std.specs.Prelude.{ℕ, cond, List, ◌++◌, length, drop, leb}
use Rattle.tables.specs.Faults.{Fault, no_fault, fault}
use Rattle.category_borrowed.specs.Files.{fault_of, valid}
use Rattle.category_borrowed.specs.Converted.{converted, rewritten}

-- what is found wrong, the number of records rewritten, 0 where something is wrong, and the room after
pub record Answer : Type 0 where
  pub found : Fault
  pub rewritten : ℕ
  pub room : List ℕ

-- refused: the room stays
abbrev pub refuse : Fault → List ℕ → Answer
refuse f room = record { found = f; rewritten = 0; room = room }

-- granted: the converted file stands at the start of the room, and the rest stays
abbrev pub granted : List ℕ → List ℕ → Answer
granted file room = record { found = no_fault; rewritten = rewritten file; room = converted file ++ drop (length file) room }

-- 9, then 10 with the record, as document 01 has them; then 12 where the room is shorter than the file
unfoldable pub convert_answer : (file room : List ℕ) → Answer
convert_answer file room =
    cond (valid file) (cond (leb (length file) (length room)) (granted file room) (refuse (fault 12 0) room)) (refuse (fault_of file) room)
