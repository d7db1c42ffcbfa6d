-- The answer of writing a net with a marking as PNML, by the numbers of documents 01 and 02 (F-1). Assumes nothing.
use Rattle.std.specs.Prelude.{ℕ, cond, List, ◌++◌, Result, Ok, Err, length, drop, eqb, ltb}
use Rattle.net.specs.Table.{net_of}
use Rattle.net.specs.Answer.{Fault, no_fault, fault, refusal, load_fault}
use Rattle.pnml_shape.specs.Drawing.{written}
use Rattle.pnml_net.specs.Nets.{drawing_of}
use Rattle.pnml_write.specs.declared.WriteRefusal.{WriteRefusal}
use Rattle.pnml_write.specs.declared.WriteRefusal.TheVariants.{Net, Short}

-- the number, 0 where granted; the record; the length of the text, 0 where refused; and the room after
pub record Answer : Type 0 where
  pub number : ℕ
  pub place : ℕ
  pub length : ℕ
  pub room : List ℕ

-- refused: the room stays
abbrev pub refuse : Fault → List ℕ → Answer
refuse f room = record { number = f.number; place = f.place; length = 0; room = room }

-- granted: so many bytes, and the room after
abbrev pub grant : (long : ℕ) → List ℕ → Answer
grant n room = record { number = 0; place = 0; length = n; room = room }

-- ---- what the code's answer says

abbrev pub refused : WriteRefusal → Fault
refused (Net r) = refusal r
refused Short = fault 12 0

unfoldable pub found_of : Result ℕ WriteRefusal → Fault
found_of (Ok n) = no_fault
found_of (Err r) = refused r

unfoldable pub length_of : Result ℕ WriteRefusal → ℕ
length_of (Ok n) = n
length_of (Err r) = 0

-- with this room after
abbrev pub answer_of : Result ℕ WriteRefusal → List ℕ → Answer
answer_of w room = record { number = (found_of w).number; place = (found_of w).place; length = length_of w; room = room }

-- ---- what it has to say

-- 12 where the room is too short; else the text stands at its start, and the rest stays
unfoldable pub put_answer : (text room : List ℕ) → Answer
put_answer text room =
    cond (ltb (length room) (length text)) (refuse (fault 12 0) room) (grant (length text) (text ++ drop (length text) room))

-- the text of a net with a marking
unfoldable pub text_of : (places marking : ℕ) (net : List ℕ) → List ℕ
text_of places m bytes = written (drawing_of (net_of places bytes) m)

-- 1, 2, 3 and 7; then 12
unfoldable pub write_answer : (places marking : ℕ) (net room : List ℕ) → Answer
write_answer places m bytes room =
    cond (eqb (load_fault places m bytes).number 0)
    (put_answer (text_of places m bytes) room)
    (refuse (load_fault places m bytes) room)
