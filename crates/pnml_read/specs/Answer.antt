-- The answer of reading a PNML text, by the numbers of document 02 (F-1). Assumes nothing.
use Rattle.std.specs.Prelude.{ℕ, ◌*◌, Bool, cond, ◌&&◌, List, ◌++◌, length, drop, ltb, leb}
use Rattle.std.specs.Prelude.{Result, Ok, Err}
use Rattle.net.specs.Table.{transition_size}
use Rattle.pnml_shape.specs.Drawing.{Drawing}
use Rattle.pnml_shape.specs.Machine.{Outcome, stopped, drawn}
use Rattle.pnml_net.specs.Nets.{marking_of, records_of}
use Rattle.pnml_scan.specs.declared.Left.{Left}
use Rattle.pnml_turn.specs.declared.Stopped.{Stopped}
use Rattle.pnml_read.specs.declared.Found.{Found}
use Rattle.pnml_read.specs.declared.ReadRefusal.{ReadRefusal}
use Rattle.pnml_read.specs.declared.ReadRefusal.TheVariants.{Shape, Places, Transitions, Short}

-- the number, 0 where granted; the offset; places, marking and the bytes of the records, 0 where refused; and the room after
pub record Answer : Type 0 where
  pub number : ℕ
  pub place : ℕ
  pub places : ℕ
  pub marking : ℕ
  pub length : ℕ
  pub room : List ℕ

-- refused: the room stays
abbrev pub refuse : (number place : ℕ) → List ℕ → Answer
refuse n k room = record { number = n; place = k; places = 0; marking = 0; length = 0; room = room }

-- 1 to 64
unfoldable pub few : ℕ → Bool
few n = leb 1 n && leb n 64

-- the records stand at the start of the room, and the rest stays
unfoldable pub granted : Drawing → List ℕ → Answer
granted d room =
    record {
      number = 0;
      place = 0;
      places = length d.marks;
      marking = marking_of d.marks;
      length = length d.actions * transition_size;
      room = records_of d.arcs d.actions ++ drop (length d.actions * transition_size) room;
    }

-- 1 and 2: too few or too many places or transitions; then 12: the room is shorter than the records
unfoldable pub drawn_answer : Drawing → List ℕ → Answer
drawn_answer d room =
    cond (few (length d.marks))
    (cond (few (length d.actions)) (cond (ltb (length room) (length d.actions * transition_size)) (refuse 12 0 room) (granted d room)) (refuse 2 0 room))
    (refuse 1 0 room)

-- 13 with the offset first
unfoldable pub read_answer : Outcome → List ℕ → Answer
read_answer (stopped k) room = refuse 13 k room
read_answer (drawn d) room = drawn_answer d room

-- ---- the code's answer

abbrev pub nothing_found : Found
nothing_found = record { places = 0; marking = 0; length = 0 }

-- where the text left the shape
abbrev pub of_left : Left → ReadRefusal
of_left left = Shape left.at

-- the same, whatever was read before
abbrev pub of_stopped : Stopped → ReadRefusal
of_stopped stop = Shape stop.at

-- its number and place
unfoldable pub number_of : Result Found ReadRefusal → ℕ
number_of (Ok f) = 0
number_of (Err (Shape k)) = 13
number_of (Err Places) = 1
number_of (Err Transitions) = 2
number_of (Err Short) = 12

unfoldable pub place_of : Result Found ReadRefusal → ℕ
place_of (Ok f) = 0
place_of (Err (Shape k)) = k
place_of (Err Places) = 0
place_of (Err Transitions) = 0
place_of (Err Short) = 0

-- what it found
unfoldable pub found_of : Result Found ReadRefusal → Found
found_of (Ok f) = f
found_of (Err why) = nothing_found

-- what it says, with this room after
abbrev pub answer_of : Result Found ReadRefusal → List ℕ → Answer
answer_of r room =
    record {
      number = number_of r;
      place = place_of r;
      places = (found_of r).places;
      marking = (found_of r).marking;
      length = (found_of r).length;
      room = room;
    }
