-- The answer of setting two nets side by side, by the numbers of documents 01 and 02 (F-8). Assumes nothing.
use Rattle.std.specs.Prelude.{ℕ, ◌+◌, cond, ◌&&◌, List, ◌++◌, length, drop, eqb, leb}
use Rattle.net.specs.Table.{transitions}
use Rattle.net.specs.Answer.{Fault, no_fault, fault, or_else, load_fault}
use Rattle.join.specs.Joint.{Marked, joint}

-- what is found wrong; the joint places, marking and bytes of the records, 0 where something is wrong; the room after
pub record Answer : Type 0 where
  pub found : Fault
  pub places : ℕ
  pub marking : ℕ
  pub length : ℕ
  pub room : List ℕ

-- refused: the room stays
abbrev pub refuse : Fault → List ℕ → Answer
refuse f room = record { found = f; places = 0; marking = 0; length = 0; room = room }

-- granted: the records stand at the start of the room, and the rest stays
abbrev pub granted : Marked → List ℕ → Answer
granted j room =
    record {
      found = no_fault;
      places = j.places;
      marking = j.marking;
      length = length j.bytes;
      room = j.bytes ++ drop (length j.bytes) room;
    }

-- 1, 2, 3 and 7 of one half
abbrev pub half_fault : Marked → Fault
half_fault h = load_fault h.places h.marking h.bytes

-- 15: the places or the transitions add up to more than 64
unfoldable pub size_fault : (first second : Marked) → Fault
size_fault f s =
    cond (leb (f.places + s.places) 64 && leb (transitions f.bytes + transitions s.bytes) 64) no_fault (fault 15 0)

-- 12: the room is shorter than the joint records
unfoldable pub room_fault : (first second : Marked) (room : List ℕ) → Fault
room_fault f s room = cond (leb (length (joint f s).bytes) (length room)) no_fault (fault 12 0)

-- the first half's, then the second's, then 15, then 12
unfoldable pub join_fault : (first second : Marked) (room : List ℕ) → Fault
join_fault f s room = or_else (half_fault f) (or_else (half_fault s) (or_else (size_fault f s) (room_fault f s room)))

unfoldable pub join_answer : (first second : Marked) (room : List ℕ) → Answer
join_answer f s room = cond (eqb (join_fault f s room).number 0) (granted (joint f s) room) (refuse (join_fault f s room) room)
