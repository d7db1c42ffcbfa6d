-- What the check's verdict says: of tables that are accepted what the code needs of them, of the others the answer. Assumes nothing.
use mathlib.Core.Path.{◌≡◌, sym, ap, ◌∙◌}
use mathlib.Core.Bool.{cond}
use mathlib.Core.List.{List}
use Prim.Native.Nat.{ℕ, ◌<◌}
use lib.Dec.{eqb}
use borrow.Author.Tests.{eq-eqb}
use Rattle.tables.specs.Faults.{fault}
use Rattle.tables.proofs.Tests.{if_true}
use Rattle.pctl.specs.Table.{formulas}
use Rattle.tableau.specs.Rules.{in_range}
use Rattle.nodes.specs.Nodes.{ask_of, sequent_at, node_at, row_at}
use Rattle.faults.specs.Faults.{fault_at}
use Rattle.faults.proofs.Judging.{ranges_low}
use Rattle.std.proofs.Common.{Err}
use Rattle.checker.specs.declared.Rejection.{Rejection}
use Rattle.checker.specs.declared.Rejection.TheVariants.{Input, Node}
use Rattle.checker.specs.Outcomes.{Outcome, verdict, net_for, check_outcome}
use Rattle.checker.proofs.Derived.{node_passed}
use Rattle.checker.proofs.Admitted.{ask_whole, inside_both, nodes_whole}
use Rattle.checker.proofs.Accepted.{accepted_passed}
use Rattle.checker.proofs.Numbered.{accepted}
use Rattle.compact_tables.specs.Tables.{Tables, tables, compacted}
use Rattle.compact_tables.specs.Answer.{Answer, refuse, write_answer, compact_answer}
use Rattle.compact_tables.specs.Theorem.{Stands, AreBytes, CompactedStand}
use Rattle.compact_tables.proofs.Worth.{compacted_stand}
use Rattle.compact.specs.declared.CompactRefusal.TheVariants.{Rejected}
use Rattle.compact.specs.Result.{numbers_of, answer_of}
use Rattle.compact.specs.Serving.{Formulas, Ready}
use Rattle.compact.proofs.Records.{few}

module _ (ask net F tree : List ℕ) where
  -- ---- accepted tables

  node_inside : (k : ℕ) → fault_at (net_for ask net) F (ask_of ask) tree k ≡ 0 → (sequent_at tree k).formula < formulas F
  unfolding in_range
  node_inside k e =
      (ranges_low (net_for ask net).places (net_for ask net).transitions (formulas F) (row_at tree k).asks.choice (sequent_at tree k)
      (node_at tree k).transition (node_passed (net_for ask net) F (ask_of ask) tree k e).ranges).1

  pub accepted_ready : (check_outcome ask net F tree).word ≡ 0 → Ready ask F tree
  accepted_ready e =
      let p = accepted_passed ask net F tree e in
      let good : Formulas F = record { sized = p.0.formulas-sized; lower = p.0.formulas_lower } in
      record {
        asked = ask_whole ask p.0.ask-good;
        formulas_good = good;
        inside = (inside_both (ask_of ask) F p.0.ask-inside).1;
        nodes_good = record { low = λ k h. few F good (sequent_at tree k).formula (node_inside k (p.1 k h)) };
        whole = nodes_whole tree p.0.tree-sized;
      }

  -- ---- the answer

  -- a tree that is not accepted is refused by its own number
  module _ (r : Rejection) (e : verdict (Err r) ≡ check_outcome ask net F tree) where
    pub rejected_answer : (rooms : Tables) → answer_of (Err (Rejected r)) rooms ≡ compact_answer ask net F tree rooms
    unfolding verdict answer_of numbers_of compact_answer
    rejected_answer rooms = by r e
      where
        answered : Outcome → Answer
        answered o = cond (eqb o.word 0) (write_answer ask F tree rooms) (refuse (fault o.number o.place) rooms)

        by : (r : Rejection) → verdict (Err r) ≡ check_outcome ask net F tree
            → refuse (fault (verdict (Err r)).number (verdict (Err r)).place) rooms ≡ answered (check_outcome ask net F tree)
        by (Input f) q = ap answered q
        by (Node f k) q = ap answered q

  module _ (h : (check_outcome ask net F tree).word ≡ 0) where
    pub accepted_answer : (rooms : Tables) {x : Answer} → x ≡ write_answer ask F tree rooms → x ≡ compact_answer ask net F tree rooms
    unfolding compact_answer
    accepted_answer rooms e = e ∙ sym (if_true (eqb (check_outcome ask net F tree).word 0) _ _ (eq-eqb (check_outcome ask net F tree).word 0 h))

  -- ---- what it is worth

  module _ (b₁ : AreBytes ask) (b₂ : AreBytes F) (b₃ : AreBytes tree) where
    pub accepted_worth : (check_outcome ask net F tree).word ≡ 0 → Stands ask net F tree (compacted (tables ask F tree))
    unfolding CompactedStand
    accepted_worth = compacted_stand ask net F tree b₁ b₂ b₃

    -- an outcome without a number is an acceptance
    pub rejected_worth : (r : Rejection) → verdict (Err r) ≡ check_outcome ask net F tree → (numbers_of (Err (Rejected r))).number ≡ 0
        → Stands ask net F tree (compacted (tables ask F tree))
    unfolding numbers_of
    rejected_worth r e z = accepted_worth (accepted ask net F tree (sym (ap (λ (o : Outcome). o.number) e) ∙ z))
