-- In the new tables every formula record is reached, so the new numbers there are the numbers, and the tables stay as they are. Assumes nothing.
use mathlib.Core.Path.{◌≡◌, refl, sym, ap, ◌∙◌, subst}
use mathlib.Core.Bool.{Bool, true, false, ◌&&◌, ◌||◌}
use mathlib.Core.Logic.{◌⊎◌, inl, inr}
use mathlib.Core.List.{List, []}
use Prim.Native.Nat.{ℕ, ◌*◌, ◌≤◌, ◌<◌}
use native.Mathlib.Nat.{le_of_lt, lt_trans, lt_of_le_of_lt, lt_of_lt_of_le}
use lib.ListN.{length}
use lib.Dec.{eqb}
use borrow.Author.Tests.{eqb-true, eq-eqb}
use Rattle.tables.specs.Lists.{laid}
use Rattle.tables.proofs.Tests.{and_left, and_right, and_intro, or_left, or_right, either, if_true, if_false}
use Rattle.tables.proofs.Numbers.{Bytes}
use Rattle.tables.proofs.Below.{count_all}
use Rattle.tables.proofs.Laid.{laid_ext, laid_closed}
use Rattle.pctl.specs.Table.{operator_at, left_at, right_at, record_at, formulas, has_left, has_right, formulas_sized}
use Rattle.pctl.specs.Lower.{Lower}
use Rattle.pctl.specs.Written.{formula_bytes}
use Rattle.pctl.proofs.Formulas.{left_lower, right_lower}
use Rattle.nodes.specs.declared.Ask.{Ask}
use Rattle.nodes.specs.Nodes.{node_size, nodes, sequent_at, node_at}
use Rattle.nodes.specs.Written.{node_bytes}
use Rattle.compact_tables.specs.Reached.{names, Reaches, reached}
use Rattle.compact_tables.specs.Reached.Reaches.{itself, operand}
use Rattle.compact_tables.specs.Tables.{new_number, operand_by, record_by, sequent_by, node_by, ask_by, kept_record, new_formulas_lem, new_node, new_tree_lem, kept_count}
use Rattle.compact_tables.proofs.Reaching.{reached_self, reached_most, reached_reaches, reaches_reached}
use Rattle.compact_tables.proofs.Formulas.{new_count, record_new, same_record, left_reached, right_reached, number_inside, old_number, lower_new, asked_inside}
use Rattle.compact_tables.proofs.Nodes.{nodes_new, node_new}

module _ (F : List ℕ) (bytes : Bytes F) (few : formulas_sized F ≡ true) (low : Lower F) (f : ℕ) (inside : f < formulas F) where
  -- ---- every record is reached

  -- an operand of a reached record is an operand of the new one
  names_new : (g k : ℕ) → g < formulas F → reached F f g ≡ true → names F g k ≡ true → names (new_formulas_lem F f) (new_number F f g) (new_number F f k) ≡ true
  unfolding names
  names_new g k h e n =
      by (either (has_left (operator_at F g) && eqb (left_at F g) k) (has_right (operator_at F g) && eqb (right_at F g) k) n)
    where
      by : ((has_left (operator_at F g) && eqb (left_at F g) k) ≡ true) ⊎ ((has_right (operator_at F g) && eqb (right_at F g) k) ≡ true)
          → ((has_left (operator_at (new_formulas_lem F f) (new_number F f g)) && eqb (left_at (new_formulas_lem F f) (new_number F f g)) (new_number F f k))
          || (has_right (operator_at (new_formulas_lem F f) (new_number F f g)) && eqb (right_at (new_formulas_lem F f) (new_number F f g)) (new_number F f k)))
          ≡ true
      by (inl p) =
          let same = same_record F bytes few low f inside g h e in
          let has : has_left (operator_at F g) ≡ true = and_left (has_left (operator_at F g)) _ p in
          or_left (has_left (operator_at (new_formulas_lem F f) (new_number F f g)) && eqb (left_at (new_formulas_lem F f) (new_number F f g)) (new_number F f k)) _
          (and_intro (has_left (operator_at (new_formulas_lem F f) (new_number F f g))) _ (ap has_left same.operator ∙ has)
          (eq-eqb _ _ (same.left has ∙ ap (new_number F f) (eqb-true _ _ (and_right (has_left (operator_at F g)) _ p)))))
      by (inr p) =
          let same = same_record F bytes few low f inside g h e in
          let has : has_right (operator_at F g) ≡ true = and_left (has_right (operator_at F g)) _ p in
          or_right (has_left (operator_at (new_formulas_lem F f) (new_number F f g)) && eqb (left_at (new_formulas_lem F f) (new_number F f g)) (new_number F f k)) _
          (and_intro (has_right (operator_at (new_formulas_lem F f) (new_number F f g))) _ (ap has_right same.operator ∙ has)
          (eq-eqb _ _ (same.right has ∙ ap (new_number F f) (eqb-true _ _ (and_right (has_right (operator_at F g)) _ p)))))

  reaches_new : (k : ℕ) → Reaches F f k → Reaches (new_formulas_lem F f) (new_number F f f) (new_number F f k)
  reaches_new k itself = itself
  reaches_new k (operand {g} x n) =
      let e : reached F f g ≡ true = reaches_reached F low f inside g x in
      operand (reaches_new g x) (names_new g k (lt_of_le_of_lt (reached_most F low f inside g e) inside) e n)

  pub all_reaches : (i : ℕ) → i < formulas (new_formulas_lem F f) → Reaches (new_formulas_lem F f) (new_number F f f) i
  all_reaches i h =
      let o = old_number F bytes few low f inside i h in
      subst (Reaches (new_formulas_lem F f) (new_number F f f)) o.3 (reaches_new o.0 (reached_reaches F f o.0 o.2))

  -- ---- so the numbers stay

  all_reached : (i : ℕ) → i < formulas (new_formulas_lem F f) → reached (new_formulas_lem F f) (new_number F f f) i ≡ true
  all_reached i h =
      reaches_reached (new_formulas_lem F f) (lower_new F bytes few low f inside) (new_number F f f) (asked_inside F bytes few low f inside) i (all_reaches i h)

  number_stays : (i : ℕ) → i ≤ formulas (new_formulas_lem F f) → new_number (new_formulas_lem F f) (new_number F f f) i ≡ i
  unfolding new_number
  number_stays i h = count_all (reached (new_formulas_lem F f) (new_number F f f)) i (λ j l. all_reached j (lt_of_lt_of_le l h))

  -- that of a reached record
  number_twice : (k : ℕ) → k < formulas F → reached F f k ≡ true → new_number (new_formulas_lem F f) (new_number F f f) (new_number F f k) ≡ new_number F f k
  number_twice k h e = number_stays (new_number F f k) (le_of_lt (number_inside F bytes few low f inside k h e))

  pub count_stays : kept_count (new_formulas_lem F f) (new_number F f f) ≡ kept_count F f
  unfolding kept_count
  count_stays = count_all (reached (new_formulas_lem F f) (new_number F f f)) (formulas (new_formulas_lem F f)) all_reached ∙ new_count F f

  -- ---- the tables

  operand_twice : (has : Bool) (x : ℕ) → (has ≡ true → (x < formulas F) × (reached F f x ≡ true))
      → operand_by (new_number (new_formulas_lem F f) (new_number F f f)) has (operand_by (new_number F f) has x) ≡ operand_by (new_number F f) has x
  unfolding operand_by
  operand_twice true x h = number_twice x (h refl).0 (h refl).1
  operand_twice false x h = refl

  module _ (k : ℕ) (h : k < formulas F) (e : reached F f k ≡ true) where
    record_twice : record_by (new_number (new_formulas_lem F f) (new_number F f f)) (record_by (new_number F f) (record_at F k)) ≡ record_by (new_number F f) (record_at F k)
    unfolding record_by record_at
    record_twice =
        λ i.
        record {
          operator = operator_at F k;
          left =
              operand_twice (has_left (operator_at F k)) (left_at F k)
              (λ q. (lt_trans (left_lower F low k h q) h, left_reached F bytes few low f inside k h e q)) i;
          right =
              operand_twice (has_right (operator_at F k)) (right_at F k)
              (λ q. (lt_trans (right_lower F low k h q) h, right_reached F bytes few low f inside k h e q)) i;
          action = (record_at F k).action;
        }

    entry_stays : kept_record (new_formulas_lem F f) (new_number F f f) (new_number F f k) ≡ kept_record F f k
    unfolding kept_record
    entry_stays =
        if_true (reached (new_formulas_lem F f) (new_number F f f) (new_number F f k)) _ [] (all_reached (new_number F f k) (number_inside F bytes few low f inside k h e))
        ∙ ap (λ x. formula_bytes (record_by (new_number (new_formulas_lem F f) (new_number F f f)) x)) (record_new F bytes few low f inside k h e)
        ∙ ap formula_bytes record_twice
        ∙ sym (if_true (reached F f k) _ [] e)

  pub formulas_stay : new_formulas_lem (new_formulas_lem F f) (new_number F f f) ≡ new_formulas_lem F f
  unfolding new_formulas_lem new_number kept_count kept_record
  formulas_stay =
      ap (laid (kept_record (new_formulas_lem F f) (new_number F f f))) (new_count F f)
      ∙ laid_closed (kept_record F f) (kept_record (new_formulas_lem F f) (new_number F f f)) (reached F f) (formulas F) entry_stays
      (λ k l e. if_false (reached F f k) _ [] e)

  pub ask_stays : (a : Ask) → a.formula ≡ f → ask_by (new_number (new_formulas_lem F f) (new_number F f f)) (ask_by (new_number F f) a) ≡ ask_by (new_number F f) a
  unfolding ask_by
  ask_stays a e =
      ap (λ (x : ℕ). record { marking = a.marking; formula = x; places = a.places; side = a.side })
      (subst (λ (x : ℕ). new_number (new_formulas_lem F f) (new_number F f f) (new_number F f x) ≡ new_number F f x) (sym e) (number_twice f inside (reached_self F f)))

  module _ (tree : List ℕ) (node-bytes : Bytes tree) (whole : nodes tree * node_size ≡ length tree)
      (kept : (k : ℕ) → k < nodes tree → ((sequent_at tree k).formula < formulas F) × (reached F f (sequent_at tree k).formula ≡ true)) where
    node_stays : (k : ℕ) → k < nodes tree → new_node (new_formulas_lem F f) (new_tree_lem F tree f) (new_number F f f) k ≡ new_node F tree f k
    unfolding new_node node_by sequent_by node_at
    node_stays k h =
        ap (λ n. node_bytes (node_by (new_number (new_formulas_lem F f) (new_number F f f)) n)) (node_new F tree node-bytes f whole k)
        ∙ ap
        (λ (x : ℕ). node_bytes (node_by (λ _. x) (node_at tree k)))
        (number_twice (sequent_at tree k).formula (kept k h).0 (kept k h).1)

    pub tree_stays : new_tree_lem (new_formulas_lem F f) (new_tree_lem F tree f) (new_number F f f) ≡ new_tree_lem F tree f
    unfolding new_tree_lem
    tree_stays =
        ap (laid (new_node (new_formulas_lem F f) (new_tree_lem F tree f) (new_number F f f))) (nodes_new F tree f)
        ∙ laid_ext (new_node (new_formulas_lem F f) (new_tree_lem F tree f) (new_number F f f)) (new_node F tree f) (nodes tree) node_stays
