-- What the new tables are worth: they are accepted, claim the same, hold no dead record, and stay as they are when it is done again.
-- Assumes nothing.
use mathlib.Core.Path.{◌≡◌, refl, sym, ap, ap₂, ◌∙◌, subst}
use mathlib.Core.Bool.{true, ◌&&◌}
use mathlib.Core.Logic.{◌↔◌}
use mathlib.Core.List.{List}
use Prim.Native.Nat.{ℕ, ◌*◌, ◌<◌}
use native.Mathlib.Nat.{lt_of_le_of_lt}
use lib.ListN.{length}
use lib.Dec.{eqb, leb, ltb}
use borrow.Author.Tests.{eq-eqb, lt-ltb}
use Rattle.tables.specs.Sizes.{sized}
use Rattle.tables.proofs.Tests.{and_intro, if_true}
use Rattle.tables.proofs.Numbers.{Bytes, field_lt}
use Rattle.bitset.specs.Sets.{within}
use Rattle.net.specs.Table.{net_of, places_good, record_bad}
use Rattle.pctl.specs.Table.{formulas}
use Rattle.pctl.specs.Formula.{formula}
use Rattle.pctl.specs.Meaning.{ClaimOf, Claim}
use Rattle.nodes.specs.declared.Ask.{Ask}
use Rattle.nodes.specs.Nodes.{ask_size_lem, node_size, ask_of, nodes}
use Rattle.nodes.specs.Written.{ask_bytes}
use Rattle.nodes.proofs.Written.{ask_length, AskFits, ask_read}
use Rattle.faults.specs.Faults.{fault_at}
use Rattle.checker.specs.Outcomes.{ask_good, tree_sized, ask_inside, outcome, net_for, check_outcome}
use Rattle.checker.specs.Demand.{AskClaim}
use Rattle.checker.proofs.Admitted.{Admitted, ask_whole, inside_both, nodes_whole}
use Rattle.checker.proofs.Accepted.{Faultless, accepted_passed, passed_accepted}
use Rattle.compact_tables.specs.Reached.{Reaches}
use Rattle.compact_tables.specs.Tables.{new_number, ask_by, new_formulas_lem, new_tree_lem, new_ask_lem, kept_count, Tables, tables, compacted}
use Rattle.compact_tables.specs.Answer.{granted, roomy, write_answer, compact_answer}
use Rattle.compact_tables.specs.Theorem.{ReachedExactly, Stands, CompactedStand}
use Rattle.compact_tables.proofs.Reaching.{reached_self, reached_reaches, reaches_reached}
use Rattle.compact_tables.proofs.Formulas.{number_most, new_count, lower_new, asked_inside, sized_new, formula_new}
use Rattle.compact_tables.proofs.Nodes.{tree_length, nodes_new}
use Rattle.compact_tables.proofs.Clear.{formula_inside, node_reached, node_clear}
use Rattle.compact_tables.proofs.Again.{all_reaches, count_stays, formulas_stay, ask_stays, tree_stays}

-- the test finds exactly what is reached
pub reached_exactly : ReachedExactly
unfolding ReachedExactly
reached_exactly F low f inside k = (reached_reaches F f k, reaches_reached F low f inside k)

-- ---- the tables of an accepted tree

module _ (ask net F tree : List ℕ) (ask-bytes : Bytes ask) (bytes : Bytes F) (node-bytes : Bytes tree) (e : (check_outcome ask net F tree).word ≡ 0) where
  admitted : Admitted ask net F tree
  admitted = (accepted_passed ask net F tree e).0

  good : Faultless ask net F tree
  good = (accepted_passed ask net F tree e).1

  inside : (ask_of ask).formula < formulas F
  inside = (inside_both (ask_of ask) F admitted.ask-inside).1

  whole : nodes tree * node_size ≡ length tree
  whole = nodes_whole tree admitted.tree-sized

  -- ---- the ask

  ask_fits : AskFits (ask_by (new_number F (ask_of ask).formula) (ask_of ask))
  unfolding ask_by ask_of
  ask_fits =
      record {
        marking = field_lt 8 0 ask ask-bytes;
        formula = lt_of_le_of_lt (number_most F (ask_of ask).formula (ask_of ask).formula) (field_lt 2 8 ask ask-bytes);
        places = field_lt 1 10 ask ask-bytes;
        side = field_lt 1 11 ask ask-bytes;
      }

  ask_new : ask_of (new_ask_lem ask F (ask_of ask).formula) ≡ ask_by (new_number F (ask_of ask).formula) (ask_of ask)
  unfolding new_ask_lem
  ask_new = ask_read (ask_by (new_number F (ask_of ask).formula) (ask_of ask)) ask_fits

  asked_new : (ask_of (new_ask_lem ask F (ask_of ask).formula)).formula ≡ new_number F (ask_of ask).formula (ask_of ask).formula
  unfolding ask_by
  asked_new = ap (λ a. a.formula) ask_new

  places_new : (ask_of (new_ask_lem ask F (ask_of ask).formula)).places ≡ (ask_of ask).places
  unfolding ask_by
  places_new = ap (λ a. a.places) ask_new

  side_new : (ask_of (new_ask_lem ask F (ask_of ask).formula)).side ≡ (ask_of ask).side
  unfolding ask_by
  side_new = ap (λ a. a.side) ask_new

  marking_new : (ask_of (new_ask_lem ask F (ask_of ask).formula)).marking ≡ (ask_of ask).marking
  unfolding ask_by
  marking_new = ap (λ a. a.marking) ask_new

  -- ---- accepted

  admitted_new : Admitted (new_ask_lem ask F (ask_of ask).formula) net (new_formulas_lem F (ask_of ask).formula) (new_tree_lem F tree (ask_of ask).formula)
  unfolding ask_good ask_inside tree_sized new_ask_lem
  admitted_new =
      record {
        ask-good =
            (λ i. eqb (sizes i) ask_size_lem && places_good (places_new i) && leb (side_new i) 1) ∙ admitted.ask-good;
        net_sized = admitted.net_sized;
        net_records = λ t l. ap (λ (p : ℕ). record_bad p net t) places_new ∙ admitted.net_records t l;
        formulas-sized = sized_new F bytes admitted.formulas-sized admitted.formulas_lower (ask_of ask).formula inside;
        formulas_lower = lower_new F bytes admitted.formulas-sized admitted.formulas_lower (ask_of ask).formula inside;
        tree-sized = ap (sized node_size 1 65536) (tree_length F tree (ask_of ask).formula ∙ whole) ∙ admitted.tree-sized;
        ask-inside =
            and_intro _ _
            (ap₂ within places_new marking_new ∙ (inside_both (ask_of ask) F admitted.ask-inside).0)
            (ap (λ (x : ℕ). ltb x (formulas (new_formulas_lem F (ask_of ask).formula))) asked_new
            ∙ lt-ltb _ _ (asked_inside F bytes admitted.formulas-sized admitted.formulas_lower (ask_of ask).formula inside));
      }
    where
      sizes : length (new_ask_lem ask F (ask_of ask).formula) ≡ length ask
      sizes = ask_length (ask_by (new_number F (ask_of ask).formula) (ask_of ask)) ∙ sym (ask_whole ask admitted.ask-good)

  faultless_new : Faultless (new_ask_lem ask F (ask_of ask).formula) net (new_formulas_lem F (ask_of ask).formula) (new_tree_lem F tree (ask_of ask).formula)
  unfolding net_for ask_by
  faultless_new k h =
      ap
      (λ (a : Ask). fault_at (net_of a.places net) (new_formulas_lem F (ask_of ask).formula) a (new_tree_lem F tree (ask_of ask).formula) k)
      ask_new
      ∙ node_clear (net_for ask net) F (ask_of ask) tree bytes admitted.formulas-sized admitted.formulas_lower inside node-bytes whole good k
      (subst (λ (n : ℕ). k < n) (nodes_new F tree (ask_of ask).formula) h)

  accepted_new : check_outcome (new_ask_lem ask F (ask_of ask).formula) net (new_formulas_lem F (ask_of ask).formula) (new_tree_lem F tree (ask_of ask).formula)
      ≡ outcome 0 0 (nodes tree)
  accepted_new =
      passed_accepted (new_ask_lem ask F (ask_of ask).formula) net (new_formulas_lem F (ask_of ask).formula) (new_tree_lem F tree (ask_of ask).formula) admitted_new faultless_new
      ∙ ap (outcome 0 0) (nodes_new F tree (ask_of ask).formula)

  -- ---- the same claim

  formula_same : formula (new_formulas_lem F (ask_of ask).formula) (ask_of (new_ask_lem ask F (ask_of ask).formula)).formula ≡ formula F (ask_of ask).formula
  formula_same =
      ap (formula (new_formulas_lem F (ask_of ask).formula)) asked_new
      ∙ formula_new F bytes admitted.formulas-sized admitted.formulas_lower (ask_of ask).formula inside (ask_of ask).formula inside (reached_self F (ask_of ask).formula)

  claim_same : AskClaim (new_ask_lem ask F (ask_of ask).formula) net (new_formulas_lem F (ask_of ask).formula) ↔ AskClaim ask net F
  unfolding AskClaim Claim net_for
  claim_same = (
    λ x. coe 0 1 (i. ClaimOf (net_of (places_new i) net) (formula_same i) (marking_new i) (side_new i)) x,
    λ x. coe 1 0 (i. ClaimOf (net_of (places_new i) net) (formula_same i) (marking_new i) (side_new i)) x,
  )

  -- ---- again

  abbrev asked : ℕ
  asked = new_number F (ask_of ask).formula (ask_of ask).formula

  ask_again : new_ask_lem (new_ask_lem ask F (ask_of ask).formula) (new_formulas_lem F (ask_of ask).formula) asked ≡ new_ask_lem ask F (ask_of ask).formula
  unfolding new_ask_lem
  ask_again =
      ap (λ (a : Ask). ask_bytes (ask_by (new_number (new_formulas_lem F (ask_of ask).formula) asked) a)) ask_new
      ∙ ap ask_bytes (ask_stays F bytes admitted.formulas-sized admitted.formulas_lower (ask_of ask).formula inside (ask_of ask) refl)

  tree_again : new_tree_lem (new_formulas_lem F (ask_of ask).formula) (new_tree_lem F tree (ask_of ask).formula) asked ≡ new_tree_lem F tree (ask_of ask).formula
  tree_again =
      tree_stays F bytes admitted.formulas-sized admitted.formulas_lower (ask_of ask).formula inside tree node-bytes whole
      (λ k h. (
        formula_inside (net_for ask net) F (ask_of ask) tree bytes admitted.formulas-sized admitted.formulas_lower inside node-bytes whole good k h,
        node_reached (net_for ask net) F (ask_of ask) tree bytes admitted.formulas-sized admitted.formulas_lower inside node-bytes whole good k h,
      ))

  stays : compacted (compacted (tables ask F tree)) ≡ compacted (tables ask F tree)
  unfolding compacted
  stays =
      ap
      (λ (x : ℕ).
      tables (new_ask_lem (new_ask_lem ask F (ask_of ask).formula) (new_formulas_lem F (ask_of ask).formula) x) (new_formulas_lem (new_formulas_lem F (ask_of ask).formula) x)
      (new_tree_lem (new_formulas_lem F (ask_of ask).formula) (new_tree_lem F tree (ask_of ask).formula) x))
      asked_new
      ∙ (λ i.
      tables (ask_again i) (formulas_stay F bytes admitted.formulas-sized admitted.formulas_lower (ask_of ask).formula inside i) (tree_again i))

  -- the count, too
  count_again : kept_count (new_formulas_lem F (ask_of ask).formula) (ask_of (new_ask_lem ask F (ask_of ask).formula)).formula ≡ kept_count F (ask_of ask).formula
  count_again =
      ap (kept_count (new_formulas_lem F (ask_of ask).formula)) asked_new
      ∙ count_stays F bytes admitted.formulas-sized admitted.formulas_lower (ask_of ask).formula inside

  answer_again : (rooms : Tables) → roomy (compacted (tables ask F tree)) rooms ≡ true
      → compact_answer (new_ask_lem ask F (ask_of ask).formula) net (new_formulas_lem F (ask_of ask).formula) (new_tree_lem F tree (ask_of ask).formula) rooms
      ≡ granted (kept_count F (ask_of ask).formula) (compacted (tables ask F tree)) rooms
  unfolding compact_answer write_answer compacted
  answer_again rooms r =
      if_true _ _ _ (eq-eqb _ 0 (ap (λ o. o.word) accepted_new))
      ∙ if_true _ _ _ (ap (λ t. roomy t rooms) stays ∙ r)
      ∙ ap₂ (λ (n : ℕ) (t : Tables). granted n t rooms) count_again stays

  -- all of it
  pub stand : Stands ask net F tree (compacted (tables ask F tree))
  unfolding compacted
  stand =
      record {
        accepted = accepted_new;
        same_formula = formula_same;
        same_side = side_new;
        same_places = places_new;
        same_marking = marking_new;
        same_claim = claim_same;
        all_reached =
            λ k h.
            subst (λ (x : ℕ). Reaches (new_formulas_lem F (ask_of ask).formula) x k) (sym asked_new)
            (all_reaches F bytes admitted.formulas-sized admitted.formulas_lower (ask_of ask).formula inside k h);
        as_said = new_count F (ask_of ask).formula;
        again = answer_again;
      }

pub compacted_stand : CompactedStand
unfolding CompactedStand Bytes
compacted_stand ask net F tree a b c e = stand ask net F tree a b c e
