-- What is written is accepted, and its claim true. Assumes nothing.
use mathlib.Core.Path.{◌≡◌, refl, sym, ap, ◌∙◌, subst}
use mathlib.Core.Bool.{Bool, true, false, cond, ◌&&◌}
use mathlib.Core.List.{List, [], ◌∷◌, ◌++◌, append-nil}
use Prim.Native.Nat.{ℕ, ◌*◌, ◌/◌, ◌%◌, ◌≤◌, ◌<◌}
use native.Mathlib.Omega.{arith}
use lib.ListN.{length, get_or, drop}
use lib.Seq.{take_at}
use lib.Dec.{eqb, leb}
use borrow.Author.Tests.{eq-eqb, eqb-true, eqb-false, le-leb, leb-true, not-false}
use Rattle.bitset.specs.Sets.{within}
use Rattle.tables.specs.Sizes.{sized}
use Rattle.tables.specs.Faults.{fault, or_else}
use Rattle.tables.proofs.Tests.{and_left, and_right, and_intro, if_true}
use Rattle.tables.proofs.Counts.{sized_most}
use Rattle.net.specs.declared.Net.{Net}
use Rattle.net.specs.Table.{pre_at, post_at, mark_at, spare_at, transitions, net_of, places_good, table_sized, record_bad}
use Rattle.net.specs.Answer.{table_fault}
use Rattle.net.proofs.Answers.{decoded_post}
use Rattle.pctl.specs.Table.{formulas, formulas_sized, formulas_fault}
use Rattle.pctl.specs.Formula.{formula}
use Rattle.pctl.specs.Meaning.{Claim}
use Rattle.tableau.specs.Rules.{clean}
use Rattle.nodes.specs.declared.Ask.{Ask}
use Rattle.nodes.specs.Nodes.{ask_size_lem, node_size, ask_of, nodes, sequent_at}
use Rattle.nodes.specs.Written.{with_side}
use Rattle.nodes.proofs.Written.{with-side, with_side_length}
use Rattle.faults.specs.Faults.{root_good, fault_at}
use Rattle.checker.specs.Outcomes.{ask_good, tree_sized, ask_inside, last_fault, rest_fault, input_fault, outcome, net_for, check_outcome}
use Rattle.checker.specs.Demand.{AskClaim, AcceptedIsTrue}
use Rattle.checker.proofs.Derived.{test_passed, agree_at}
use Rattle.checker.proofs.Admitted.{Admitted, ask_whole, inside_both, input_passed}
use Rattle.checker.proofs.Accepted.{passed_accepted}
use Rattle.checker.proofs.Demand.{accepted_is_true}
use Rattle.tree_shape.specs.Evaluation.{until_free}
use Rattle.tree_shape.specs.Trees.{Trees, roots, size, table_of, heads, belows}
use Rattle.tree_shape.specs.Trees.Trees.{none}
use Rattle.tree_shape.specs.Chosen.{truth_of, side_of, chosen}
use Rattle.tree_shape.proofs.Steps.{roots_tree, chosen_true, chosen_false}
use Rattle.tree_shape.proofs.Laid.{table_length, roots_size, heads_length}
use Rattle.tree_answer.specs.Answer.{Answer, refuse, asked_fault, roomy, granted, tree_answer, write_answer}
use Rattle.tree_answer.specs.Theorem.{Accepts, IsTrue, Worth, WrittenIsAccepted}
use Rattle.tree_answer.proofs.Right.{Admits, Right, sequents, sequents_length, sequents_holds, sequents_fails, chosen_right}
use Rattle.tree_answer.proofs.Standing.{Placed, agrees}
use Rattle.tree_answer.proofs.Clear.{table_clear}

-- the tables are refused as the check refuses them, with any tree of an allowed size
pub asked_input : (ask net F tree : List ℕ) → tree_sized tree ≡ true → input_fault ask net F tree ≡ asked_fault ask net F
unfolding input_fault rest_fault last_fault asked_fault
asked_input ask net F tree h =
    ap (λ f. cond (ask_good ask) (or_else (table_fault (ask_of ask).places net) (or_else (formulas_fault F) f)) (fault 1 0)) (if_true (tree_sized tree) _ _ h)

-- ---- a chosen tree

chosen_one : (N : Net) (F : List ℕ) (f m : ℕ) → roots (chosen N F f m) ≡ 1
unfolding chosen roots
chosen_one N F f m = roots_tree N F (side_of N F f m) f m none

-- its table holds it
table_placed : (T : Trees) → roots T ≡ 1 → Placed (table_of T) T 0 0 1
unfolding table_of
table_placed T one =
    record {
      top = record { before = []; after = belows T 0 1; is = refl; at = refl };
      under = record { before = heads T 0 1; after = []; is = ap (λ l. heads T 0 1 ++ l) (sym (append-nil (belows T 0 1))); at = heads_length T 0 1 ∙ ap (λ (n : ℕ). n * node_size) one };
    }

-- it has as many nodes
table_nodes : (T : Trees) → roots T ≡ 1 → nodes (table_of T) ≡ size T
unfolding nodes
table_nodes T one = ap (λ (n : ℕ). n / node_size) (table_length T one) ∙ (let e : size T * 40 / 40 ≡ size T = omega arith in e)

table-sized : (T : Trees) → roots T ≡ 1 → size T ≤ 65536 → tree_sized (table_of T) ≡ true
unfolding tree_sized sized
table-sized T one few =
    let l : length (table_of T) ≡ size T * 40 = table_length T one in
    let r : roots T ≤ size T = roots_size T in
    and_intro _ _ (and_intro _ _ (eq-eqb (length (table_of T) % 40) 0 (omega arith)) (le-leb 1 (length (table_of T) / 40) (omega arith))) (le-leb (length (table_of T) / 40) 65536 (omega arith))

-- its root's sequent
chosen_sequents : (N : Net) (F : List ℕ) (f m : ℕ) → sequents (chosen N F f m) ≡ clean (side_of N F f m) f m ∷ []
unfolding side_of sequents
chosen_sequents N F f m = by (truth_of N F f m) refl
  where
    by : (c : Bool) → truth_of N F f m ≡ c → sequents (chosen N F f m) ≡ clean (cond (truth_of N F f m) 0 1) f m ∷ []
    by true e = ap sequents (chosen_true N F f m e) ∙ sequents_holds N F f m none ∙ ap (λ b. clean (cond b 0 1) f m ∷ []) (sym e)
    by false e = ap sequents (chosen_false N F f m e) ∙ sequents_fails N F f m none ∙ ap (λ b. clean (cond b 0 1) f m ∷ []) (sym e)

side_low : (N : Net) (F : List ℕ) (f m : ℕ) → side_of N F f m ≤ 1
unfolding side_of
side_low N F f m = by (truth_of N F f m)
  where
    by : (b : Bool) → cond b 0 1 ≤ 1
    by true = omega arith
    by false = omega arith

-- ---- admitted tables

-- the post set of a record without fault is within the places
within_post : (places : ℕ) (net : List ℕ) (t : ℕ) → record_bad places net t ≡ false → within places (post_at net t) ≡ true
unfolding record_bad
within_post places net t h =
    let pre : Bool = within places (pre_at net t) in
    let post : Bool = within places (post_at net t) in
    let mark : Bool = leb (mark_at net t) 1 in
    let spare : Bool = eqb (spare_at net t) 0 in
    and_right pre post (and_left (pre && post) mark (and_left (pre && post && mark) spare (not-false (pre && post && mark && spare) h)))

-- what the input checks give the trees
admits : (ask net F tree : List ℕ) → Admitted ask net F tree → Admits (net_for ask net) F
unfolding net_for net_of table_sized sized transitions
admits ask net F tree a =
    record {
      lower = a.formulas_lower;
      some = leb-true 1 (transitions net) (and_right (eqb (length net % 24) 0) (leb 1 (length net / 24)) (and_left (eqb (length net % 24) 0 && leb 1 (length net / 24)) (leb (length net / 24) 64) a.net_sized));
      few = sized_most 24 1 64 (length net) a.net_sized;
      posts = λ t l. ap (within (ask_of ask).places) (decoded_post (ask_of ask).places net a.net_sized t l) ∙ post_within t l;
    }
  where
    post_within : (t : ℕ) → t < transitions net → within (ask_of ask).places (post_at net t) ≡ true
    post_within t l = within_post (ask_of ask).places net t (a.net_records t l)

-- the ask with another side is admitted too
side_admitted : (ask net F tree : List ℕ) (side : ℕ) → side ≤ 1 → Admitted ask net F tree → Admitted (with_side ask side) net F tree
unfolding ask_good ask_inside
side_admitted ask net F tree side h a =
    record {
      ask-good =
          and_intro _ _
          (and_intro _ _ (eq-eqb _ _ (with_side_length ask side ∙ long))
          (ap (λ x. places_good x.places) e ∙ and_right (eqb (length ask) ask_size_lem) _ (and_left (eqb (length ask) ask_size_lem && places_good (ask_of ask).places) _ a.ask-good)))
          (ap (λ x. leb x.side 1) e ∙ le-leb side 1 h);
      net_sized = a.net_sized;
      net_records = λ t l. ap (λ x. record_bad x.places net t) e ∙ a.net_records t l;
      formulas-sized = a.formulas-sized;
      formulas_lower = a.formulas_lower;
      tree-sized = a.tree-sized;
      ask-inside = ap (λ x. ask_inside x F) e ∙ a.ask-inside;
    }
  where
    long : length ask ≡ ask_size_lem
    long = ask_whole ask a.ask-good

    e : ask_of (with_side ask side) ≡ record { marking = (ask_of ask).marking; formula = (ask_of ask).formula; places = (ask_of ask).places; side = side }
    e = with-side ask side long

-- ---- a granted answer

module _ (ask net F : List ℕ) (number : (asked_fault ask net F).number ≡ 0) (free : until_free (formula F (ask_of ask).formula) ≡ true) where
  N : Net
  N = net_for ask net

  T : Trees
  T = chosen N F (ask_of ask).formula (ask_of ask).marking

  side : ℕ
  side = side_of N F (ask_of ask).formula (ask_of ask).marking

  module _ (few : size T ≤ 65536) where
    one : roots T ≡ 1
    unfolding T
    one = chosen_one N F (ask_of ask).formula (ask_of ask).marking

    admitted : Admitted ask net F (table_of T)
    admitted = input_passed ask net F (table_of T) (ap (λ f. f.number) (asked_input ask net F (table_of T) (table-sized T one few)) ∙ number)

    inside : (within (ask_of ask).places (ask_of ask).marking ≡ true) × ((ask_of ask).formula < formulas F)
    inside = inside_both (ask_of ask) F admitted.ask-inside

    right : Right N F T
    unfolding T N net_for net_of
    right = chosen_right N F (admits ask net F (table_of T) admitted) (ask_of ask).formula inside.1 free (ask_of ask).marking inside.0

    places_few : N.places ≤ 64
    unfolding N net_for net_of ask_good places_good
    places_few =
        let p : places_good (ask_of ask).places ≡ true = and_right (eqb (length ask) ask_size_lem) _ (and_left (eqb (length ask) ask_size_lem && places_good (ask_of ask).places) _ admitted.ask-good) in
        leb-true (ask_of ask).places 64 (and_right (leb 1 (ask_of ask).places) (leb (ask_of ask).places 64) p)

    count_few : N.transitions ≤ 64
    unfolding N net_for net_of table_sized transitions
    count_few = sized_most 24 1 64 (length net) admitted.net_sized

    formulas_few : formulas F ≤ 256
    unfolding formulas formulas_sized
    formulas_few = sized_most 8 1 256 (length F) admitted.formulas-sized

    -- the ask with the side that is true
    asked : Ask
    asked = record { marking = (ask_of ask).marking; formula = (ask_of ask).formula; places = (ask_of ask).places; side = side }

    asked_is : ask_of (with_side ask side) ≡ asked
    unfolding asked
    asked_is = with-side ask side (ask_whole ask admitted.ask-good)

    root : sequent_at (table_of T) 0 ≡ clean side (ask_of ask).formula (ask_of ask).marking
    unfolding T side
    root =
        sym
        (ap (λ l. get_or l 0 (clean side (ask_of ask).formula (ask_of ask).marking)) (sym (chosen_sequents N F (ask_of ask).formula (ask_of ask).marking))
        ∙ agree_at (table_of T) (sequents T) 0
        (agrees N F places_few count_few formulas_few (table_of T) right 0 0 1 (omega arith) (omega (arith, one)) (table_placed T one)) 0
        (omega (arith, sequents_length T, one)) (clean side (ask_of ask).formula (ask_of ask).marking))

    clear : (k : ℕ) → k < nodes (table_of T) → fault_at N F asked (table_of T) k ≡ 0
    unfolding root_good asked
    clear =
        table_clear N F places_few count_few formulas_few asked (table_of T) (omega (arith, table_nodes T one)) right one (sym (table_nodes T one)) (table_placed T one)
        (subst (λ s. root_good asked s 0 ≡ true) (sym root)
        (and_intro _ _ (and_intro _ _ (and_intro _ _ (eq-eqb (ask_of ask).marking _ refl) (eq-eqb (ask_of ask).formula _ refl)) (eq-eqb side _ refl)) refl))

    accepted : check_outcome (with_side ask side) net F (table_of T) ≡ outcome 0 0 (nodes (table_of T))
    unfolding net_for N asked side
    accepted =
        passed_accepted (with_side ask side) net F (table_of T)
        (side_admitted ask net F (table_of T) side (side_low N F (ask_of ask).formula (ask_of ask).marking) admitted)
        (λ k h. subst (λ (x : Ask). fault_at (net_of x.places net) F x (table_of T) k ≡ 0) (sym asked_is) (clear k h))

    -- the check accepts it, and its claim is true
    tree_accepted : (room : List ℕ) → Accepts ask net F (granted side T room)
    unfolding Accepts granted
    tree_accepted room =
        ap (check_outcome (with_side ask side) net F) (take_at (table_of T) (drop (size T * node_size) room) (size T * node_size) (table_length T one))
        ∙ accepted
        ∙ ap (outcome 0 0) (table_nodes T one)

    tree_true : (room : List ℕ) → IsTrue ask net F (granted side T room)
    unfolding IsTrue granted AcceptedIsTrue AskClaim net_for asked
    tree_true room =
        subst (λ (x : Ask). Claim (net_of x.places net) F x.marking x.formula x.side) asked_is
        (accepted_is_true (with_side ask side) net F (table_of T) (ap (λ o. o.word) accepted))

-- ---- the theorem

-- a granted answer is that of a tree
answer_granted : (ask net F room : List ℕ) → (write_answer ask net F room).found.number ≡ 0
    → ((asked_fault ask net F).number ≡ 0) × (until_free (formula F (ask_of ask).formula) ≡ true)
    × (roomy (chosen (net_for ask net) F (ask_of ask).formula (ask_of ask).marking) room ≡ true)
unfolding write_answer
answer_granted ask net F room e = by (eqb (asked_fault ask net F).number 0) refl e
  where
    by : (b : Bool) → eqb (asked_fault ask net F).number 0 ≡ b
        → (cond b
        (cond (until_free (formula F (ask_of ask).formula)) (tree_answer (net_for ask net) F (ask_of ask).formula (ask_of ask).marking room) (refuse (fault 14 0) room))
        (refuse (asked_fault ask net F) room)).found.number
        ≡ 0
        → ((asked_fault ask net F).number ≡ 0) × (until_free (formula F (ask_of ask).formula) ≡ true)
        × (roomy (chosen (net_for ask net) F (ask_of ask).formula (ask_of ask).marking) room ≡ true)
    by true q e =
        let u = test_passed (λ (x : Answer). x.found.number) (until_free (formula F (ask_of ask).formula)) _ (refuse (fault 14 0) room) (λ z. omega arith) e in
        let r = test_passed (λ (x : Answer). x.found.number) (roomy (chosen (net_for ask net) F (ask_of ask).formula (ask_of ask).marking) room) _
        (refuse (fault 12 0) room) (λ z. omega arith) u.1 in
        (eqb-true _ _ q, u.0, r.0)
    by false q e = absurd (eqb-false _ _ q e)

-- and is that answer
answer_is : (ask net F room : List ℕ) → (asked_fault ask net F).number ≡ 0 → until_free (formula F (ask_of ask).formula) ≡ true
    → roomy (chosen (net_for ask net) F (ask_of ask).formula (ask_of ask).marking) room ≡ true
    → write_answer ask net F room
    ≡ granted (side_of (net_for ask net) F (ask_of ask).formula (ask_of ask).marking) (chosen (net_for ask net) F (ask_of ask).formula (ask_of ask).marking) room
unfolding write_answer tree_answer
answer_is ask net F room z u r = if_true _ _ _ (eq-eqb _ _ z) ∙ if_true _ _ _ u ∙ if_true _ _ _ r

pub written_is_accepted : WrittenIsAccepted
unfolding WrittenIsAccepted Worth roomy N T side
written_is_accepted ask net F room e =
    let g = answer_granted ask net F room e in
    let few : size (chosen (net_for ask net) F (ask_of ask).formula (ask_of ask).marking) ≤ 65536 = leb-true _ _ (and_left _ _ g.2) in
    subst (λ (x : Answer). Accepts ask net F x × IsTrue ask net F x) (sym (answer_is ask net F room g.0 g.1 g.2))
    (tree_accepted ask net F g.0 g.1 few room, tree_true ask net F g.0 g.1 few room)
