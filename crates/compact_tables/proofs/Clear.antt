-- Each node of an accepted tree has a reached formula, and with the new numbers it is as faultless as before. Assumes nothing.
use mathlib.Core.Path.{◌≡◌, refl, sym, ap, ap₂, ◌∙◌, subst}
use mathlib.Core.Bool.{true, not, ◌&&◌, ◌||◌}
use mathlib.Core.List.{List, [], ◌∷◌, map}
use Prim.Native.Nat.{ℕ, zero, suc, ◌+◌, ◌-◌, ◌*◌, ◌≤◌, ◌<◌}
use native.Mathlib.Nat.{not-suc-le-zero}
use native.Mathlib.Omega.{arith}
use lib.ListN.{length, length-map}
use lib.Dec.{eqb, leb, ltb}
use borrow.Author.Tests.{eq-eqb, ne_eqb, leb-true, lt-ltb, ltb-true}
use Rattle.tables.proofs.Tests.{and_left, and_right, and_intro, or_left, if_false}
use Rattle.tables.proofs.Numbers.{Bytes}
use Rattle.bitset.specs.Sets.{within}
use Rattle.net.specs.declared.Net.{Net}
use Rattle.net.specs.Step.{enabled, urgents}
use Rattle.pctl.specs.Table.{formulas, formulas_sized}
use Rattle.pctl.specs.Lower.{Lower}
use Rattle.tableau.specs.declared.Sequent.{Sequent}
use Rattle.tableau.specs.Rows.{row_of}
use Rattle.tableau.specs.Rules.{fits, trail_met, choice_met, met_by, condition, children, chooses, carried, ranges, in_range}
use Rattle.nodes.specs.declared.Ask.{Ask}
use Rattle.nodes.specs.declared.Node.{Node}
use Rattle.nodes.specs.Nodes.{node_size, nodes, sequent_at, node_at, row_at, choice_at}
use Rattle.nodes.specs.Links.{counts, parent_good, links_good}
use Rattle.nodes.specs.Trails.{on_trail}
use Rattle.family.specs.Family.{same, agree}
use Rattle.faults.specs.Faults.{root_good, fault_at}
use Rattle.faults.proofs.Judging.{ranges_low}
use Rattle.checker.proofs.Derived.{Passed, node_passed, passed_none, same_equal, same_self, agree_at}
use Rattle.checker.proofs.Accepted.{root_passed}
use Rattle.compact_tables.specs.Reached.{reached}
use Rattle.compact_tables.specs.Tables.{new_number, sequent_by, node_by, ask_by, new_formulas_lem, new_tree_lem}
use Rattle.compact_tables.proofs.Reaching.{reached_self}
use Rattle.compact_tables.proofs.Children.{SameRecord, named_replaced, children_kept, children_replaced}
use Rattle.compact_tables.proofs.Formulas.{same_record, left_reached, right_reached, number_inside}
use Rattle.compact_tables.proofs.Nodes.{node_new, sequent_new, links_new, on_trail_new}

module _ (N : Net) (F : List ℕ) (a : Ask) (tree : List ℕ) (bytes : Bytes F) (few : formulas_sized F ≡ true) (low : Lower F)
    (inside : a.formula < formulas F) (node-bytes : Bytes tree) (whole : nodes tree * node_size ≡ length tree)
    (good : (k : ℕ) → k < nodes tree → fault_at N F a tree k ≡ 0) where
  passed : (k : ℕ) → k < nodes tree → Passed N F a tree k
  passed k h = node_passed N F a tree k (good k h)

  -- a node's formula is in the table
  pub formula_inside : (k : ℕ) → k < nodes tree → (sequent_at tree k).formula < formulas F
  unfolding in_range
  formula_inside k h =
      (ranges_low N.places N.transitions (formulas F) (row_at tree k).asks.choice (sequent_at tree k) (node_at tree k).transition (passed k h).ranges).1

  -- ---- reached formulas

  -- the formula of a child that a node counts is reached where the node's is
  child_reached : (p k : ℕ) → p < nodes tree → reached F a.formula (sequent_at tree p).formula ≡ true → counts tree p k ≡ true
      → reached F a.formula (sequent_at tree k).formula ≡ true
  unfolding counts
  child_reached p k h e c =
      let from : (node_at tree p).first ≤ k = leb-true (node_at tree p).first k (and_left (leb (node_at tree p).first k) _ c) in
      let to : k < (node_at tree p).first + (node_at tree p).children = ltb-true k _ (and_right (leb (node_at tree p).first k) _ c) in
      let l : k - (node_at tree p).first < length (children N F (row_at tree p) (sequent_at tree p) (choice_at tree p)) = omega (arith, (passed p h).count) in
      subst (λ (x : Sequent). reached F a.formula x.formula ≡ true)
      (agree_at tree (children N F (row_at tree p) (sequent_at tree p) (choice_at tree p)) (node_at tree p).first (passed p h).sequents (k - (node_at tree p).first) l (sequent_at tree p)
      ∙ ap (sequent_at tree) (let z : (node_at tree p).first + (k - (node_at tree p).first) ≡ k = omega arith in z))
      (children_kept (reached F a.formula) N F (node_at tree p).rule (sequent_at tree p) (choice_at tree p) (passed p h).rule e
      (left_reached F bytes few low a.formula inside (sequent_at tree p).formula (formula_inside p h) e)
      (right_reached F bytes few low a.formula inside (sequent_at tree p).formula (formula_inside p h) e)
      (k - (node_at tree p).first) l (sequent_at tree p))

  -- a node's parent counts it
  has_parent : (k : ℕ) → (k ≡ 0 → ⊥) → k < nodes tree → ((node_at tree k).parent < k) × (counts tree (node_at tree k).parent k ≡ true)
  unfolding links_good parent_good
  has_parent k z h =
      let g : parent_good tree k ≡ true = and_left (parent_good tree k) _ (passed k h).links in
      let b = sym (if_false (eqb k 0) (eqb (node_at tree k).parent 0) _ (ne_eqb k 0 z)) ∙ g in
      (ltb-true _ k (and_left (ltb (node_at tree k).parent k) _ b), and_right (ltb (node_at tree k).parent k) _ b)

  -- each node's formula is reached from the asked one
  reached_to : (d k : ℕ) → k < d → k < nodes tree → reached F a.formula (sequent_at tree k).formula ≡ true
  reached_to zero k l h = absurd (not-suc-le-zero l)
  reached_to (suc d) zero l h =
      subst (λ (x : ℕ). reached F a.formula x ≡ true) (sym (root_passed a (sequent_at tree 0) (passed 0 h).root).1) (reached_self F a.formula)
  reached_to (suc d) (suc k) l h =
      let p = has_parent (suc k) (λ z. omega arith) h in
      child_reached (node_at tree (suc k)).parent (suc k) (omega (arith, p.0)) (reached_to d (node_at tree (suc k)).parent (omega (arith, p.0)) (omega (arith, p.0))) p.1

  pub node_reached : (k : ℕ) → k < nodes tree → reached F a.formula (sequent_at tree k).formula ≡ true
  node_reached k h = reached_to (suc k) k (omega arith) h

  -- ---- the node with the new numbers

  agree_new : (l : List Sequent) (at : ℕ) → agree tree l at ≡ true
      → agree (new_tree_lem F tree a.formula) (map (sequent_by (new_number F a.formula)) l) at ≡ true
  unfolding agree
  agree_new [] at e = refl
  agree_new (s ∷ l) at e =
      and_intro (same (sequent_by (new_number F a.formula) s) (sequent_at (new_tree_lem F tree a.formula) at)) _
      (subst (λ x. same (sequent_by (new_number F a.formula) s) x ≡ true)
      (ap (sequent_by (new_number F a.formula)) (same_equal s (sequent_at tree at) (and_left _ _ e))
      ∙ sym (sequent_new F tree node-bytes a.formula whole at))
      (same_self (sequent_by (new_number F a.formula) s)))
      (agree_new l (at + 1) (and_right (same s (sequent_at tree at)) _ e))

  root_new : (s : Sequent) (k : ℕ) → root_good a s k ≡ true
      → root_good (ask_by (new_number F a.formula) a) (sequent_by (new_number F a.formula) s) k ≡ true
  unfolding root_good sequent_by ask_by
  root_new s zero e =
      let q = root_passed a s e in
      and_intro _ _
      (and_intro _ _ (and_intro _ _ (eq-eqb _ _ q.0) (eq-eqb _ _ (ap (new_number F a.formula) q.1))) (eq-eqb _ _ q.2))
      (eq-eqb _ 0 q.3)
  root_new s (suc k) e = or_left (not (eqb (suc k) 0)) _ (ap not (ne_eqb (suc k) 0 (λ z. omega arith)))

  module _ (k : ℕ) (h : k < nodes tree) where
    p : Passed N F a tree k
    p = passed k h

    is_reached : reached F a.formula (sequent_at tree k).formula ≡ true
    is_reached = node_reached k h

    kept-record : SameRecord (new_number F a.formula) F (new_formulas_lem F a.formula) (sequent_at tree k).formula
    kept-record = same_record F bytes few low a.formula inside (sequent_at tree k).formula (formula_inside k h) is_reached

    ranges_new : in_range N (new_formulas_lem F a.formula) (row_at tree k) (sequent_by (new_number F a.formula) (sequent_at tree k)) (choice_at tree k) ≡ true
    unfolding in_range ranges carried sequent_by
    ranges_new =
        ap
        (λ b.
        within N.places (sequent_at tree k).marking
        && ltb (node_at tree k).transition N.transitions
        && b
        && leb (sequent_at tree k).side 1
        && (chooses (row_at tree k).asks.choice || eqb (node_at tree k).transition 0)
        && carried N.places N.transitions (sequent_at tree k))
        (lt-ltb _ _ (number_inside F bytes few low a.formula inside (sequent_at tree k).formula (formula_inside k h) is_reached)
        ∙ sym (lt-ltb _ _ (formula_inside k h)))
        ∙ p.ranges

    rule_new : fits (row_at tree k) (new_formulas_lem F a.formula) (sequent_by (new_number F a.formula) (sequent_at tree k)) ≡ true
    unfolding fits sequent_by
    rule_new =
        ap
        (λ (op : ℕ).
        (row_at tree k).known
        && eqb (row_at tree k).side (sequent_at tree k).side
        && eqb (row_at tree k).operator op
        && eqb (row_at tree k).phase (sequent_at tree k).phase)
        kept-record.operator
        ∙ p.rule

    met_new : condition N (new_formulas_lem F a.formula) (row_at tree k) (sequent_by (new_number F a.formula) (sequent_at tree k)) (choice_at tree k)
        (on_trail (new_tree_lem F tree a.formula) k) ≡ true
    unfolding condition met_by sequent_by
    met_new =
        ap₂
        (λ on b.
        met_by (row_at tree k).asks (sequent_at tree k) (trail_met (row_at tree k).asks.trail on) (urgents N (sequent_at tree k).marking)
        (choice_met (row_at tree k).asks.choice (enabled N (sequent_at tree k).marking (node_at tree k).transition) b))
        (on_trail_new F tree node-bytes a.formula whole k)
        (named_replaced (new_number F a.formula) N F (new_formulas_lem F a.formula) (sequent_at tree k) kept-record (node_at tree k).transition)
        ∙ p.met

    children_new : children N (new_formulas_lem F a.formula) (row_at tree k) (sequent_by (new_number F a.formula) (sequent_at tree k)) (choice_at tree k)
        ≡ map (sequent_by (new_number F a.formula)) (children N F (row_at tree k) (sequent_at tree k) (choice_at tree k))
    children_new =
        children_replaced (new_number F a.formula) N F (new_formulas_lem F a.formula) (sequent_at tree k) kept-record (node_at tree k).rule (choice_at tree k) p.rule

    -- the node of the new table
    here : node_at (new_tree_lem F tree a.formula) k ≡ node_by (new_number F a.formula) (node_at tree k)
    here = node_new F tree node-bytes a.formula whole k

    -- it has no fault
    pub node_clear : fault_at N (new_formulas_lem F a.formula) (ask_by (new_number F a.formula) a) (new_tree_lem F tree a.formula) k ≡ 0
    unfolding node_at node_by
    node_clear =
        passed_none N (new_formulas_lem F a.formula) (ask_by (new_number F a.formula) a) (new_tree_lem F tree a.formula) k
        record {
          links = links_new F tree node-bytes a.formula whole k ∙ p.links;
          ranges =
              subst (λ (n : Node). in_range N (new_formulas_lem F a.formula) (row_of n.rule) n.sequent (record { transition = n.transition }) ≡ true)
              (sym here) ranges_new;
          root =
              subst (λ (n : Node). root_good (ask_by (new_number F a.formula) a) n.sequent k ≡ true) (sym here)
              (root_new (sequent_at tree k) k p.root);
          rule = subst (λ (n : Node). fits (row_of n.rule) (new_formulas_lem F a.formula) n.sequent ≡ true) (sym here) rule_new;
          met =
              subst
              (λ (n : Node).
              condition N (new_formulas_lem F a.formula) (row_of n.rule) n.sequent (record { transition = n.transition }) (on_trail (new_tree_lem F tree a.formula) k)
              ≡ true)
              (sym here) met_new;
          count =
              subst
              (λ (n : Node).
              n.children ≡ length (children N (new_formulas_lem F a.formula) (row_of n.rule) n.sequent (record { transition = n.transition })))
              (sym here) (p.count ∙ sym (ap length children_new ∙ length-map old (sequent_by (new_number F a.formula))));
          sequents =
              subst
              (λ (n : Node).
              agree (new_tree_lem F tree a.formula) (children N (new_formulas_lem F a.formula) (row_of n.rule) n.sequent (record { transition = n.transition })) n.first
              ≡ true)
              (sym here)
              (subst (λ l. agree (new_tree_lem F tree a.formula) l (node_at tree k).first ≡ true) (sym children_new) (agree_new _ _ p.sequents));
        }
      where
        old : List Sequent
        old = children N F (row_at tree k) (sequent_at tree k) (choice_at tree k)
