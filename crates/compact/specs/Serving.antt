-- Serves the code's proof only: contracts cite it, no meaning depends on it. Assumes nothing.
use Rattle.std.specs.Prelude.{◌≡◌, ℕ, ◌*◌, ◌<◌, Bool, true, false, cond, ◌&&◌, ◌||◌, List, [], length, get_or}
use Rattle.pctl.specs.Table.{record_at, formulas, formulas_sized}
use Rattle.pctl.specs.Lower.{Lower}
use Rattle.pctl.specs.Written.{formula_bytes}
use Rattle.nodes.specs.Nodes.{ask_size_lem, node_size, ask_of, nodes, node_at, sequent_at}
use Rattle.nodes.specs.Written.{node_bytes}
use Rattle.compact_tables.specs.Reached.{names}
use Rattle.compact_tables.specs.Tables.{record_by, node_by}

-- ---- what the tables of an accepted tree are

pub record Formulas (F : List ℕ) : Type 0 where
  pub sized : formulas_sized F ≡ true
  pub lower : Lower F

pub record Nodes (tree : List ℕ) : Type 0 where
  pub low : (k : ℕ) → k < nodes tree → (sequent_at tree k).formula < 256

pub record Ready (ask F tree : List ℕ) : Type 0 where
  pub asked : length ask ≡ ask_size_lem
  pub formulas_good : Formulas F
  pub inside : (ask_of ask).formula < formulas F
  pub nodes_good : Nodes tree
  pub whole : nodes tree * node_size ≡ length tree

-- ---- marks

-- the marks of the records that pass a test
pub record Marks (p : ℕ → Bool) (marks : List Bool) : Type 0 where
  pub whole : length marks ≡ 256
  pub each : (k : ℕ) → k < 256 → get_or marks k false ≡ p k

-- entry k is marked
unfoldable pub is_marked : List Bool → ℕ → Bool
is_marked marks k = get_or marks k false

-- the operands of record i are marked too, where it is marked: of marks by any test
unfoldable pub Marked : (F : List ℕ) (i : ℕ) (before after : List Bool) → Type 0
Marked F i before after = (p : ℕ → Bool) → Marks p before → Marks (λ k. p k || (p i && names F i k)) after

-- ---- new numbers

-- the number of an entry
abbrev pub at : List ℕ → ℕ → ℕ
at numbers k = get_or numbers k 0

-- record k by the marks and the new numbers
unfoldable pub kept_by : (F : List ℕ) → (marks : List Bool) → (numbers : List ℕ) → ℕ → List ℕ
kept_by F marks numbers k = cond (is_marked marks k) (formula_bytes (record_by (at numbers) (record_at F k))) []

-- node k by the new numbers
unfoldable pub node_of : (tree numbers : List ℕ) → ℕ → List ℕ
node_of tree numbers k = node_bytes (node_by (at numbers) (node_at tree k))
