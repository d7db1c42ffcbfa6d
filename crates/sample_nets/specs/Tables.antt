-- The bytes of transition records, net R, and the conflicts in a table. Assumes nothing.
use Rattle.std.specs.Prelude.{ℕ, ◌+◌, ◌*◌, cond, ◌&&◌, List, ◌++◌, eqb, ltb}
use Rattle.std.proofs.lemmas.List.Edits.{sets}
use Rattle.net.specs.Step.{conflicts}
use Rattle.net.specs.Table.{transitions, net_of}
use Rattle.net.specs.Answer.{table_fault}
use Rattle.sample_bytes.specs.Bytes.{bytes}

-- the record of a pressed transition
unfoldable pub transition : (pre post action : ℕ) → List ℕ
unfolding bytes
transition pre post action = bytes 8 pre ++ bytes 8 post ++ bytes 2 action ++ bytes 6 0

-- that of an optional one
unfoldable pub optional : (pre post action : ℕ) → List ℕ
unfolding bytes
optional pre post action = bytes 8 pre ++ bytes 8 post ++ bytes 2 action ++ bytes 1 1 ++ bytes 5 0

-- net R: t0 1→1 action 1; t1 2→4 action 2; t2 4→0 action 3
unfoldable pub net_r : List ℕ
unfolding transition
net_r = transition 1 1 1 ++ transition 2 4 2 ++ transition 4 0 3

-- net R with transition t optional
unfoldable pub optional_r : ℕ → List ℕ
unfolding bytes net_r
optional_r t = sets net_r (t * 24 + 18) (bytes 1 1)

-- three independent transitions: t0 1→2, t1 4→8, t2 16→32, no actions
unfoldable pub net_three : List ℕ
unfolding transition
net_three = transition 1 2 0 ++ transition 4 8 0 ++ transition 16 32 0

-- the set of the transitions of a table's net in conflict with t; empty where the table is refused (2 or 3) or has no t
unfoldable pub conflicts_in : (places : ℕ) (table : List ℕ) (t : ℕ) → ℕ
conflicts_in places table t =
    cond (eqb (table_fault places table).number 0 && ltb t (transitions table)) (conflicts (net_of places table) t) 0
