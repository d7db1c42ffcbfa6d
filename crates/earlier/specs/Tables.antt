-- Tables of transitions as they were defined before document 02's F-4: six spare bytes, and no transition is optional. No contract cites this.
-- Assumes nothing.
use Rattle.std.specs.Prelude.{ℕ, ◌+◌, ◌*◌, Bool, cond, not, ◌&&◌, List, length, eqb}
use Rattle.bitset.specs.Sets.{within}
use Rattle.tables.specs.Bytes.{field}
use Rattle.tables.specs.Lists.{tab, up_to}
use Rattle.tables.specs.Faults.{Fault, no_fault, fault, or_else, scan_fault}
use Rattle.net.specs.declared.Net.{Net}
use Rattle.net.specs.Table.{transition_size, pre_at, post_at, action_at, transitions, places_good}
use Rattle.net.specs.Answer.{Answer, refuse, step_answer}
use Rattle.walk.specs.declared.Walk.{Walk}
use Rattle.walk.specs.State.{started_at}
use Rattle.walk.specs.Calls.{granted}

-- the six bytes that had to be zero, as one number
unfoldable pub earlier_spare_at : List ℕ → ℕ → ℕ
earlier_spare_at bytes t = field 6 (t * transition_size + 18) bytes

-- the net that a table held: as a net of today, one whose set of optional transitions is empty
unfoldable pub earlier_net_of : ℕ → List ℕ → Net
earlier_net_of places bytes =
    record {
      places = places;
      transitions = transitions bytes;
      pre = tab (up_to (pre_at bytes) (transitions bytes)) 64;
      post = tab (up_to (post_at bytes) (transitions bytes)) 64;
      action = tab (up_to (action_at bytes) (transitions bytes)) 64;
      optional = 0;
    }

-- 3 at the record t: a set beyond the places, or a spare byte not zero
unfoldable pub earlier_record_bad : ℕ → List ℕ → ℕ → Bool
unfolding earlier_spare_at
earlier_record_bad places bytes t = not (within places (pre_at bytes t) && within places (post_at bytes t) && eqb (earlier_spare_at bytes t) 0)

-- 2 and 3
unfoldable pub earlier_table_fault : ℕ → List ℕ → Fault
unfolding earlier_record_bad
earlier_table_fault places bytes = scan_fault 2 3 transition_size 1 64 (earlier_record_bad places bytes) (length bytes)

-- 1, 2, 3 and 7
unfoldable pub earlier_load_fault : ℕ → ℕ → List ℕ → Fault
unfolding earlier_table_fault
earlier_load_fault places m bytes =
    cond (places_good places) (or_else (earlier_table_fault places bytes) (cond (within places m) no_fault (fault 7 0))) (fault 1 0)

-- the single firing, with the two sets that document 02's F-7 has given to 41 since
unfoldable pub earlier_firing : ℕ → ℕ → List ℕ → ℕ → Answer
unfolding earlier_load_fault earlier_net_of
earlier_firing places m bytes t =
    cond (eqb (earlier_load_fault places m bytes).number 0) (step_answer (earlier_net_of places bytes) m t) (refuse (earlier_load_fault places m bytes))

-- the walk after a load
unfoldable pub earlier_load_walk : Walk → ℕ → ℕ → List ℕ → Walk
unfolding earlier_load_fault earlier_net_of
earlier_load_walk w places m bytes = cond (granted (refuse (earlier_load_fault places m bytes))) (started_at (earlier_net_of places bytes) m) w
