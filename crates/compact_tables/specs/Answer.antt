-- The answer of writing the tables without dead formula records, by the numbers of documents 01 and 02 (F-10). Assumes nothing.
use Rattle.std.specs.Prelude.{ℕ, Bool, cond, ◌&&◌, List, ◌++◌, length, drop, eqb, leb}
use Rattle.tables.specs.Faults.{Fault, no_fault, fault}
use Rattle.nodes.specs.Nodes.{ask_of}
use Rattle.checker.specs.Outcomes.{check_outcome}
use Rattle.compact_tables.specs.Tables.{kept_count, Tables, tables, compacted}

-- what is found wrong; the number of formula records left, 0 where something is wrong; the three lent tables after
pub record Answer : Type 0 where
  pub found : Fault
  pub count : ℕ
  pub rooms : Tables

-- refused: the lent tables stay
abbrev pub refuse : Fault → Tables → Answer
refuse f rooms = record { found = f; count = 0; rooms = rooms }

-- a table stands at the start of the room, and the rest stays
abbrev pub front : (table room : List ℕ) → List ℕ
front table room = table ++ drop (length table) room

-- granted: so many formula records are left, and the new tables stand at the start of the lent ones
unfoldable pub granted : (count : ℕ) → (new rooms : Tables) → Answer
granted count new rooms =
    record {
      found = no_fault;
      count = count;
      rooms =
          tables (front new.ask rooms.ask) (front new.formulas rooms.formulas) (front new.tree rooms.tree);
    }

-- not 12: no lent table is shorter than what is to be written into it
unfoldable pub roomy : (new rooms : Tables) → Bool
roomy new rooms =
    leb (length new.ask) (length rooms.ask)
    && leb (length new.formulas) (length rooms.formulas)
    && leb (length new.tree) (length rooms.tree)

-- of an accepted tree: 12, or the new tables
unfoldable pub write_answer : (ask F tree : List ℕ) (rooms : Tables) → Answer
unfolding granted
write_answer ask F tree rooms =
    cond (roomy (compacted (tables ask F tree)) rooms)
    (granted (kept_count F (ask_of ask).formula) (compacted (tables ask F tree)) rooms)
    (refuse (fault 12 0) rooms)

-- the check's own answer where it does not accept, its number with the record or the node; then 12
unfoldable pub compact_answer : (ask net F tree : List ℕ) (rooms : Tables) → Answer
unfolding write_answer
compact_answer ask net F tree rooms =
    cond (eqb (check_outcome ask net F tree).word 0)
    (write_answer ask F tree rooms)
    (refuse (fault (check_outcome ask net F tree).number (check_outcome ask net F tree).place) rooms)
