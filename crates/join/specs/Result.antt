-- The code's answer in the numbers of documents 01 and 02. Assumes nothing.
use Rattle.std.specs.Prelude.{ℕ, List, Result, Ok, Err}
use Rattle.net.specs.Answer.{Fault, fault, refusal}
use Rattle.join.specs.Answer.{Answer}
use Rattle.join.specs.declared.Joint.{Joint}
use Rattle.join.specs.declared.JoinRefusal.{JoinRefusal}
use Rattle.join.specs.declared.JoinRefusal.TheVariants.{Half, Large, Short}
use Rattle.join.specs.declared.Numbers.{Numbers}

-- a refusal's number and record, with no joint net
abbrev pub refused_by : Fault → Numbers
refused_by f = record { number = f.number; place = f.place; places = 0; marking = 0; length = 0 }

-- what is found wrong
unfoldable pub fault_of : JoinRefusal → Fault
fault_of (Half r) = refusal r
fault_of Large = fault 15 0
fault_of Short = fault 12 0

unfoldable pub numbers_of : Result Joint JoinRefusal → Numbers
unfolding fault_of
numbers_of (Ok j) = record { number = 0; place = 0; places = j.places; marking = j.marking; length = j.length }
numbers_of (Err why) = refused_by (fault_of why)

-- the answer of these numbers, with the room after
abbrev pub answer_by : Numbers → List ℕ → Answer
answer_by n room =
    record {
      found = fault n.number n.place;
      places = n.places;
      marking = n.marking;
      length = n.length;
      room = room;
    }

unfoldable pub answer_of : Result Joint JoinRefusal → List ℕ → Answer
unfolding numbers_of
answer_of r room = answer_by (numbers_of r) room
