-- The tree check as it was defined before document 02's F-4, and the ask's claim. No contract cites this. Assumes nothing.
use Rattle.std.specs.Prelude.{ℕ, Bool, cond, not, List, length, eqb, ltb}
use Rattle.tables.specs.Lists.{first}
use Rattle.tables.specs.Faults.{Fault, fault, or_else}
use Rattle.net.specs.declared.Net.{Net}
use Rattle.tableau.specs.Rules.{in_range, fits}
use Rattle.nodes.specs.declared.Ask.{Ask}
use Rattle.nodes.specs.Nodes.{node_at, sequent_at, row_at, choice_at, ask_of, nodes}
use Rattle.nodes.specs.Links.{links_good}
use Rattle.nodes.specs.Trails.{on_trail}
use Rattle.family.specs.Family.{agree}
use Rattle.faults.specs.Faults.{root_good}
use Rattle.checker.specs.Outcomes.{ask_good, rest_fault, Outcome, outcome}
use Rattle.earlier.specs.Tables.{earlier_net_of, earlier_table_fault}
use Rattle.earlier.specs.Meaning.{EarlierClaim}
use Rattle.earlier.specs.Rules.{earlier_condition, earlier_children}

-- the fault of node k, 0 for none
unfoldable pub earlier_fault_at : Net → List ℕ → Ask → List ℕ → ℕ → ℕ
earlier_fault_at N F a tree k =
    cond (links_good tree k)
    (cond (in_range N F (row_at tree k) (sequent_at tree k) (choice_at tree k))
    (cond (root_good a (sequent_at tree k) k)
    (cond (fits (row_at tree k) F (sequent_at tree k))
    (cond (earlier_condition N F (row_at tree k) (sequent_at tree k) (choice_at tree k) (on_trail tree k))
    (cond (eqb (node_at tree k).children (length (earlier_children N F (row_at tree k) (sequent_at tree k) (choice_at tree k))))
    (cond (agree tree (earlier_children N F (row_at tree k) (sequent_at tree k) (choice_at tree k)) (node_at tree k).first) 0 26)
    25)
    24)
    23)
    22)
    21)
    20

-- the first refusal of 1 to 7
unfoldable pub earlier_input_fault : (ask net F tree : List ℕ) → Fault
earlier_input_fault ask net F tree =
    cond (ask_good ask) (or_else (earlier_table_fault (ask_of ask).places net) (rest_fault (ask_of ask) F tree)) (fault 1 0)

unfoldable pub earlier_net_for : (ask net : List ℕ) → Net
unfolding earlier_net_of
earlier_net_for ask net = earlier_net_of (ask_of ask).places net

-- node k has a fault
unfoldable pub earlier_bad : (ask net F tree : List ℕ) → ℕ → Bool
unfolding earlier_fault_at earlier_net_for
earlier_bad ask net F tree k = not (eqb (earlier_fault_at (earlier_net_for ask net) F (ask_of ask) tree k) 0)

-- the lowest node with a fault, or the number of nodes where there is none
unfoldable pub earlier_first_bad : (ask net F tree : List ℕ) → ℕ
unfolding earlier_bad
earlier_first_bad ask net F tree = first (earlier_bad ask net F tree) (nodes tree)

-- the nodes in rising order
unfoldable pub earlier_scanned : (ask net F tree : List ℕ) → Outcome
unfolding earlier_first_bad
earlier_scanned ask net F tree =
    cond (ltb (earlier_first_bad ask net F tree) (nodes tree))
    (outcome 2 (earlier_fault_at (earlier_net_for ask net) F (ask_of ask) tree (earlier_first_bad ask net F tree)) (earlier_first_bad ask net F tree))
    (outcome 0 0 (nodes tree))

unfoldable pub earlier_check_outcome : (ask net F tree : List ℕ) → Outcome
unfolding earlier_input_fault earlier_scanned
earlier_check_outcome ask net F tree =
    cond (eqb (earlier_input_fault ask net F tree).number 0)
    (earlier_scanned ask net F tree)
    (outcome 1 (earlier_input_fault ask net F tree).number (earlier_input_fault ask net F tree).place)

-- the ask's claim
unfoldable pub EarlierAskClaim : (ask net F : List ℕ) → Type 0
unfolding earlier_net_for EarlierClaim
EarlierAskClaim ask net F = EarlierClaim (earlier_net_for ask net) F (ask_of ask).marking (ask_of ask).formula (ask_of ask).side
