-- What the new tables are worth (document 02, F-10): they are accepted, claim the same, hold no dead record, and stay as they are when it is done
-- again. Assumes nothing.
use Rattle.std.specs.Prelude.{ℕ, ◌<◌, ◌≡◌, true, ◌↔◌, List, get_or}
use Rattle.pctl.specs.Table.{formulas}
use Rattle.pctl.specs.Lower.{Lower}
use Rattle.pctl.specs.Formula.{formula}
use Rattle.nodes.specs.Nodes.{ask_of, nodes}
use Rattle.checker.specs.Outcomes.{outcome, check_outcome}
use Rattle.checker.specs.Demand.{AskClaim}
use Rattle.compact_tables.specs.Reached.{Reaches, reached}
use Rattle.compact_tables.specs.Tables.{kept_count, Tables, tables, compacted}
use Rattle.compact_tables.specs.Answer.{granted, roomy, compact_answer}

-- the test `reached`, by which the new tables are defined, finds exactly what is reached: of every table that passes the input checks, every record
unfoldable pub ReachedExactly : Type 0
ReachedExactly = (F : List ℕ) → Lower F → (f : ℕ) → f < formulas F → (k : ℕ) → (reached F f k ≡ true) ↔ Reaches F f k

-- the tables `new` that are written for the tables of an accepted tree
pub record Stands (ask net F tree : List ℕ) (new : Tables) : Type 0 where
  -- they are accepted, with as many nodes
  pub accepted : check_outcome new.ask net new.formulas new.tree ≡ outcome 0 0 (nodes tree)
  -- they claim the same: the asked formula is equal as a formula, and so are side, places and marking
  pub same_formula : formula new.formulas (ask_of new.ask).formula ≡ formula F (ask_of ask).formula
  pub same_side : (ask_of new.ask).side ≡ (ask_of ask).side
  pub same_places : (ask_of new.ask).places ≡ (ask_of ask).places
  pub same_marking : (ask_of new.ask).marking ≡ (ask_of ask).marking
  pub same_claim : AskClaim new.ask net new.formulas ↔ AskClaim ask net F
  -- each of their formula records is the asked one or reached from it, and there are as many as said
  pub all_reached : (k : ℕ) → k < formulas new.formulas → Reaches new.formulas (ask_of new.ask).formula k
  pub as_said : formulas new.formulas ≡ kept_count F (ask_of ask).formula
  -- done again, it is granted wherever there is room, and writes the tables that it was given
  pub again : (rooms : Tables) → roomy new rooms ≡ true
      → compact_answer new.ask net new.formulas new.tree rooms ≡ granted (kept_count F (ask_of ask).formula) new rooms

-- each entry is a byte
abbrev pub AreBytes : List ℕ → Type 0
AreBytes l = (i : ℕ) → get_or l i 0 < 256

-- of all tables of bytes whose tree is accepted
unfoldable pub CompactedStand : Type 0
CompactedStand =
    (ask net F tree : List ℕ) → AreBytes ask → AreBytes F → AreBytes tree → (check_outcome ask net F tree).word ≡ 0
    → Stands ask net F tree (compacted (tables ask F tree))
