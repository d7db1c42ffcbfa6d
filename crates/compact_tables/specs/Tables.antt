-- The tables without the formula records that the asked one does not reach: the others close up in their order, and every formula number is the
-- new one. Assumes nothing.
use Rattle.std.specs.Prelude.{ℕ, Bool, cond, List, []}
use Rattle.tables.specs.Lists.{laid}
use Rattle.tables.specs.Below.{count_below}
use Rattle.pctl.specs.declared.FormulaRecord.{FormulaRecord}
use Rattle.pctl.specs.Table.{record_at, formulas, has_left, has_right}
use Rattle.pctl.specs.Written.{formula_bytes}
use Rattle.tableau.specs.declared.Sequent.{Sequent}
use Rattle.nodes.specs.declared.Ask.{Ask}
use Rattle.nodes.specs.declared.Node.{Node}
use Rattle.nodes.specs.Nodes.{ask_of, nodes, node_at}
use Rattle.nodes.specs.Written.{ask_bytes, node_bytes}
use Rattle.compact_tables.specs.Reached.{reached}

-- the new number of record k: how many lower ones are reached
unfoldable pub new_number : List ℕ → (f k : ℕ) → ℕ
new_number F f k = count_below (reached F f) k

-- ---- formula numbers replaced, where `number` gives the new one of each

-- an operand; a field that the operator lacks is no formula number and stays
unfoldable pub operand_by : (number : ℕ → ℕ) (has : Bool) (operand : ℕ) → ℕ
operand_by number has operand = cond has (number operand) operand

unfoldable pub record_by : (ℕ → ℕ) → FormulaRecord → FormulaRecord
record_by number r =
    record {
      operator = r.operator;
      left = operand_by number (has_left r.operator) r.left;
      right = operand_by number (has_right r.operator) r.right;
      action = r.action;
    }

unfoldable pub sequent_by : (ℕ → ℕ) → Sequent → Sequent
sequent_by number s =
    record {
      marking = s.marking;
      anchor = s.anchor;
      kept = s.kept;
      formula = number s.formula;
      side = s.side;
      phase = s.phase;
      round = s.round;
    }

unfoldable pub node_by : (ℕ → ℕ) → Node → Node
node_by number n =
    record {
      sequent = sequent_by number n.sequent;
      parent = n.parent;
      first = n.first;
      children = n.children;
      rule = n.rule;
      transition = n.transition;
    }

unfoldable pub ask_by : (ℕ → ℕ) → Ask → Ask
ask_by number a = record { marking = a.marking; formula = number a.formula; places = a.places; side = a.side }

-- ---- the new tables, where record f is the asked one

-- the bytes of record k, none where it is not reached
unfoldable pub kept_record : List ℕ → (f k : ℕ) → List ℕ
kept_record F f k = cond (reached F f k) (formula_bytes (record_by (new_number F f) (record_at F k))) []

unfoldable pub new_formulas_lem : List ℕ → (f : ℕ) → List ℕ
new_formulas_lem F f = laid (kept_record F f) (formulas F)

-- the bytes of node k
unfoldable pub new_node : (F tree : List ℕ) (f k : ℕ) → List ℕ
new_node F tree f k = node_bytes (node_by (new_number F f) (node_at tree k))

unfoldable pub new_tree_lem : (F tree : List ℕ) (f : ℕ) → List ℕ
new_tree_lem F tree f = laid (new_node F tree f) (nodes tree)

unfoldable pub new_ask_lem : (ask F : List ℕ) (f : ℕ) → List ℕ
new_ask_lem ask F f = ask_bytes (ask_by (new_number F f) (ask_of ask))

-- how many formula records are left
unfoldable pub kept_count : List ℕ → (f : ℕ) → ℕ
kept_count F f = count_below (reached F f) (formulas F)

-- the three tables together
pub record Tables : Type 0 where
  pub ask : List ℕ
  pub formulas : List ℕ
  pub tree : List ℕ

abbrev pub tables : (ask F tree : List ℕ) → Tables
tables ask F tree = record { ask = ask; formulas = F; tree = tree }

-- ask, formulas and tree without the dead records
unfoldable pub compacted : Tables → Tables
compacted t =
    tables (new_ask_lem t.ask t.formulas (ask_of t.ask).formula) (new_formulas_lem t.formulas (ask_of t.ask).formula)
    (new_tree_lem t.formulas t.tree (ask_of t.ask).formula)
