-- The check of a tree for a table without marks. Assumes nothing.
use mathlib.Core.Path.{◌≡◌, ap, ap₂, ◌∙◌}
use mathlib.Core.Bool.{Bool, false, cond, not}
use mathlib.Core.List.{List, map}
use Prim.Native.Nat.{ℕ, ◌<◌}
use lib.ListN.{length}
use lib.Dec.{eqb, ltb}
use Rattle.bitset.specs.Sets.{member}
use Rattle.bitset.proofs.Membership.{member_empty}
use Rattle.tables.specs.Lists.{first}
use Rattle.tables.specs.Faults.{fault, or_else}
use Rattle.net.specs.declared.Net.{Net}
use Rattle.net.specs.Step.{enabled, fired, urgents}
use Rattle.net.proofs.Urgent.{none_urgents}
use Rattle.pctl.specs.Table.{left_at, right_at}
use Rattle.tableau.specs.declared.Sequent.{Sequent}
use Rattle.tableau.specs.declared.Row.{Row}
use Rattle.tableau.specs.Rules.{Choice, trail_met, choice_met, named, met_by, condition, clean, same_after, next_of, next_named, children_of, source_at, children, in_range, fits}
use Rattle.nodes.specs.declared.Ask.{Ask}
use Rattle.nodes.specs.Nodes.{node_at, sequent_at, row_at, choice_at, ask_of, nodes}
use Rattle.nodes.specs.Links.{links_good}
use Rattle.nodes.specs.Trails.{on_trail}
use Rattle.family.specs.Family.{agree}
use Rattle.faults.specs.Faults.{root_good, fault_at}
use Rattle.checker.specs.Outcomes.{ask_good, rest_fault, outcome, input_fault, net_for, bad, first_bad, scanned, check_outcome}
use Rattle.earlier.specs.Tables.{earlier_net_of}
use Rattle.earlier.specs.Rules.{earlier_condition, earlier_source_at, earlier_children}
use Rattle.earlier.specs.Check.{earlier_fault_at, earlier_input_fault, earlier_net_for, earlier_bad, earlier_first_bad, earlier_scanned, earlier_check_outcome}
use Rattle.earlier.specs.AsBefore.{Unmarked}
use Rattle.earlier.proofs.Tables.{net_is, table_is}

-- an earlier net has no optional transition
pub none_marked : (places : ℕ) (net : List ℕ) (t : ℕ) → t < (earlier_net_of places net).transitions → member (earlier_net_of places net).optional t ≡ false
unfolding earlier_net_of
none_marked places net t l = member_empty t

-- ---- a node

module _ (N : Net) (none : (t : ℕ) → t < N.transitions → member N.optional t ≡ false) (F : List ℕ) where
  condition_is : (R : Row) (s : Sequent) (c : Choice) (on : Bool) → condition N F R s c on ≡ earlier_condition N F R s c on
  unfolding condition earlier_condition
  condition_is R s c on =
      ap (λ (u : ℕ). met_by R.asks s (trail_met R.asks.trail on) u (choice_met R.asks.choice (enabled N s.marking c.transition) (named N F s c.transition)))
      (none_urgents N none s.marking)

  children_is : (R : Row) (s : Sequent) (c : Choice) → children N F R s c ≡ earlier_children N F R s c
  unfolding children earlier_children source_at earlier_source_at
  children_is R s c =
      λ i. children_of R.children
      (record {
        side = R.side;
        left = left_at F s.formula;
        right = right_at F s.formula;
        sequent = s;
        after = same_after N s c.transition;
        urgents = none_urgents N none s.marking i;
        sames = map (same_after N s) (next_of N s);
        lefts = map (λ t. clean R.side (left_at F s.formula) (fired N s.marking t)) (next_named N F s);
      })

  node_is : (a : Ask) (tree : List ℕ) (k : ℕ) → fault_at N F a tree k ≡ earlier_fault_at N F a tree k
  unfolding fault_at earlier_fault_at
  node_is a tree k =
      λ i. cond (links_good tree k)
      (cond (in_range N F (row_at tree k) (sequent_at tree k) (choice_at tree k))
      (cond (root_good a (sequent_at tree k) k)
      (cond (fits (row_at tree k) F (sequent_at tree k))
      (cond (condition_is (row_at tree k) (sequent_at tree k) (choice_at tree k) (on_trail tree k) i)
      (cond (eqb (node_at tree k).children (length (children_is (row_at tree k) (sequent_at tree k) (choice_at tree k) i)))
      (cond (agree tree (children_is (row_at tree k) (sequent_at tree k) (choice_at tree k) i) (node_at tree k).first) 0 26)
      25)
      24)
      23)
      22)
      21)
      20

-- ---- a table

module _ (net : List ℕ) (plain : Unmarked net) (ask F tree : List ℕ) where
  input_is : input_fault ask net F tree ≡ earlier_input_fault ask net F tree
  unfolding input_fault earlier_input_fault
  input_is = ap (λ f. cond (ask_good ask) (or_else f (rest_fault (ask_of ask) F tree)) (fault 1 0)) (table_is net plain (ask_of ask).places)

  fault_is : (k : ℕ) → fault_at (net_for ask net) F (ask_of ask) tree k ≡ earlier_fault_at (earlier_net_for ask net) F (ask_of ask) tree k
  unfolding net_for earlier_net_for
  fault_is k =
      ap (λ N. fault_at N F (ask_of ask) tree k) (net_is net plain (ask_of ask).places)
      ∙ node_is (earlier_net_of (ask_of ask).places net) (none_marked (ask_of ask).places net) F (ask_of ask) tree k

  first_is : first_bad ask net F tree ≡ earlier_first_bad ask net F tree
  unfolding first_bad bad earlier_first_bad earlier_bad
  first_is = ap (λ f. first f (nodes tree)) (λ i k. not (eqb (fault_is k i) 0))

  scanned_is : scanned ask net F tree ≡ earlier_scanned ask net F tree
  unfolding scanned earlier_scanned
  scanned_is =
      ap₂ (λ (k x : ℕ). cond (ltb k (nodes tree)) (outcome 2 x k) (outcome 0 0 (nodes tree))) first_is
      (ap (fault_at (net_for ask net) F (ask_of ask) tree) first_is ∙ fault_is (earlier_first_bad ask net F tree))

  pub check_is : check_outcome ask net F tree ≡ earlier_check_outcome ask net F tree
  unfolding check_outcome earlier_check_outcome
  check_is = ap₂ (λ f o. cond (eqb f.number 0) o (outcome 1 f.number f.place)) input_is scanned_is
