-- The writer's answer, by what each way through the code has found. Assumes nothing.
use mathlib.Core.Path.{◌≡◌, refl, sym, ap, ap₂, ◌∙◌, subst}
use mathlib.Core.Bool.{Bool, true, false, cond, not, ◌&&◌}
use mathlib.Core.Logic.{◌⊎◌, inl, inr}
use mathlib.Core.List.{List}
use Prim.Native.Nat.{ℕ, zero, suc, ◌*◌, ◌/◌, ◌^◌, ◌≤◌, ◌<◌}
use native.Mathlib.Omega.{arith}
use Rattle.std.proofs.Common.{Ok, Err}
use lib.ListN.{length, get_or, replicate, length-replicate}
use lib.Dec.{eqb, leb, ltb}
use borrow.Author.Tests.{eq-eqb, leb-true, lt-leb, ltb-true, not-true, not-false}
use Rattle.bitset.specs.Sets.{within}
use Rattle.tables.specs.Sizes.{sized}
use Rattle.tables.specs.Faults.{no_fault, fault}
use Rattle.tables.proofs.Below.{lt_or_ge}
use Rattle.tables.proofs.Tests.{and_left, and_right, if_true, if_false}
use Rattle.net.specs.declared.Net.{Net}
use Rattle.net.specs.Table.{net_of}
use Rattle.pctl.specs.Table.{formulas}
use Rattle.pctl.specs.Formula.{formula}
use Rattle.nodes.specs.declared.Ask.{Ask}
use Rattle.nodes.specs.Nodes.{ask_size_lem, node_size, ask_of}
use Rattle.checker.specs.Outcomes.{ask_inside, tree_sized, fault_of, input_fault, net_for}
use Rattle.checker.specs.declared.InputFault.{InputFault}
use Rattle.checker.specs.declared.InputFault.TheVariants.{Ask as BadAsk, Net as BadNet, Formulas, Tree, Last}
use Rattle.checker.proofs.Scans.{ask-bytes, told_number}
use Rattle.net.proofs.Answers.{refusal_number}
use Rattle.checker.proofs.Admitted.{Admitted, input_passed}
use Rattle.tree_shape.specs.Evaluation.{until_free}
use Rattle.tree_shape.specs.Trees.{roots, size}
use Rattle.tree_shape.specs.Trees.Trees.{none}
use Rattle.tree_shape.specs.Chosen.{tree_of, truth_of, side_of, chosen}
use Rattle.tree_shape.specs.Serving.{lay, capped, size_of}
use Rattle.tree_shape.proofs.Steps.{roots_tree, chosen_true, chosen_false}
use Rattle.tree_shape.proofs.Places.{side_places, chosen_places}
use Rattle.tree_shape.proofs.Laid.{lay_table}
use Rattle.tree_size.specs.declared.Slot.{Slot}
use Rattle.tree_size.specs.declared.Kept.TheVariants.{Nothing, Holds, Fails}
use Rattle.tree_size.specs.Serving.{slots, slots_each, empty, Says, Sound, Ready}
use Rattle.tree_size.proofs.Memory.{ready_again}
use Rattle.tree_put.specs.Serving.{Writing}
use Rattle.tree_answer.specs.Answer.{Answer, refuse, asked_fault, roomy, granted, tree_answer, write_answer}
use Rattle.tree_answer.specs.Theorem.{Worth, WrittenIsAccepted}
use Rattle.tree_answer.proofs.Accepted.{asked_input, written_is_accepted}
use Rattle.tree_write.specs.declared.TreeRefusal.TheVariants.{Input, Until, Short}
use Rattle.tree_write.specs.Result.{found_of, written_of, answer_of}

-- ---- the room

-- a capped size is small exactly where the size is
capped_small : (x : ℕ) → capped x ≤ 65536 → capped x ≡ x
unfolding capped
capped_small x h = omega arith

-- a capped size is a small number
pub capped_fits : (n x : ℕ) → n ≡ capped x → n * 40 < 2 ^ 64
unfolding capped
capped_fits n x e = omega arith

module _ (N : Net) (F : List ℕ) (f m : ℕ) (room : List ℕ) (n : ℕ) (found : n ≡ capped (size_of N F f m)) where
  -- the test of the code
  roomy_test : (leb n 65536 && leb (n * node_size) (length room)) ≡ roomy (chosen N F f m) room
  unfolding roomy size_of capped
  roomy_test = by (lt_or_ge 65536 (size (chosen N F f m)))
    where
      by : (65536 < size (chosen N F f m)) ⊎ (size (chosen N F f m) ≤ 65536)
          → (leb n 65536 && leb (n * node_size) (length room)) ≡ (leb (size (chosen N F f m)) 65536 && leb (size (chosen N F f m) * node_size) (length room))
      by (inl l) =
          ap (λ b. b && leb (n * node_size) (length room)) (lt-leb n 65536 (omega arith))
          ∙ sym (ap (λ b. b && leb (size (chosen N F f m) * node_size) (length room)) (lt-leb (size (chosen N F f m)) 65536 l))
      by (inr l) = ap (λ (k : ℕ). leb k 65536 && leb (k * node_size) (length room)) (let e : n ≡ size (chosen N F f m) = omega arith in e)

  -- no room for the tree
  pub short : not (leb n 65536 && leb (n * node_size) (length room)) ≡ true → answer_of (Err Short) room ≡ tree_answer N F f m room
  unfolding found_of written_of tree_answer
  short h = sym (if_false (roomy (chosen N F f m) room) _ _ (sym roomy_test ∙ not-true _ h))

  module _ (fits : not (leb n 65536 && leb (n * node_size) (length room)) ≡ false) where
    enough : (leb n 65536 && leb (n * node_size) (length room)) ≡ true
    enough = not-false (leb n 65536 && leb (n * node_size) (length room)) fits

    -- the size is what was found
    pub whole : n ≡ size (chosen N F f m)
    unfolding size_of
    whole = found ∙ capped_small (size (chosen N F f m)) (subst (λ (k : ℕ). k ≤ 65536) found (leb-true n 65536 (and_left _ _ enough)))

    pub fitting : (size (chosen N F f m) ≤ 65536) × (size (chosen N F f m) * node_size ≤ length room)
    fitting = (
      subst (λ (k : ℕ). k ≤ 65536) whole (leb-true n 65536 (and_left _ _ enough)),
      subst (λ (k : ℕ). k * node_size ≤ length room) whole (leb-true (n * node_size) (length room) (and_right (leb n 65536) _ enough)),
    )

    -- the tree of a side that is true, laid into the room
    laid : (side : ℕ) → side_of N F f m ≡ side → (after : List ℕ) → after ≡ lay (chosen N F f m) 0 0 1 room
        → answer_of (Ok (record { side = side; nodes = n })) after ≡ tree_answer N F f m room
    unfolding found_of written_of tree_answer granted chosen roots
    laid side s after e =
        (λ i.
        record {
          found = no_fault;
          side = sym s i;
          nodes = whole i;
          room = (e ∙ lay_table (chosen N F f m) (roots_tree N F (side_of N F f m) f m none) room fitting.1) i;
        })
        ∙ sym (if_true (roomy (chosen N F f m) room) _ _ (sym roomy_test ∙ enough))

    pub laid_holds : truth_of N F f m ≡ true → (after : List ℕ)
        → after ≡ lay (tree_of N F 0 f m none) 0 0 1 room → answer_of (Ok (record { side = 0; nodes = n })) after ≡ tree_answer N F f m room
    unfolding side_of
    laid_holds t after e =
        laid 0 (ap (λ b. cond b 0 1) t) after (e ∙ ap (λ T. lay T 0 0 1 room) (sym (chosen_true N F f m t)))

    pub laid_fails : truth_of N F f m ≡ false → (after : List ℕ)
        → after ≡ lay (tree_of N F 1 f m none) 0 0 1 room → answer_of (Ok (record { side = 1; nodes = n })) after ≡ tree_answer N F f m room
    unfolding side_of
    laid_fails t after e =
        laid 1 (ap (λ b. cond b 0 1) t) after (e ∙ ap (λ T. lay T 0 0 1 room) (sym (chosen_false N F f m t)))

    -- what the writers of the two sides ask
    module _ (net : List ℕ) (memo kept : List Slot) (isNet : N ≡ net_of 0 net) (r : Ready net F memo f) (long : length kept ≡ length memo) (sound : Sound (net_of 0 net) F kept) where
      writing : (side : ℕ) → truth_of (net_of 0 net) F f m ≡ eqb side 0 → size (chosen N F f m) ≡ size (tree_of (net_of 0 net) F side f m none)
          → Writing net F kept room side f m 0 0 1
      writing side t e =
          record {
            ready = ready_again r kept long sound;
            truth = t;
            own = omega arith;
            above = omega arith;
            few = omega (arith, fitting.0, e);
            fits = omega (arith, fitting.1, e);
          }

      pub writing-holds : truth_of (net_of 0 net) F f m ≡ true → Writing net F kept room 0 f m 0 0 1
      writing-holds t =
          writing 0 t
          (ap (λ (M : Net). size (chosen M F f m)) isNet ∙ ap size (chosen_true (net_of 0 net) F f m t))

      pub writing-fails : truth_of (net_of 0 net) F f m ≡ false → Writing net F kept room 1 f m 0 0 1
      writing-fails t =
          writing 1 t
          (ap (λ (M : Net). size (chosen M F f m)) isNet ∙ ap size (chosen_false (net_of 0 net) F f m t))

-- ---- the tables

-- the number of places does not matter
places_away : (p : ℕ) (net F : List ℕ) (f m : ℕ) (room : List ℕ) → tree_answer (net_of 0 net) F f m room ≡ tree_answer (net_of p net) F f m room
unfolding tree_answer
places_away p net F f m room =
    ap₂ (λ (s : ℕ) T. cond (roomy T room) (granted s T room) (refuse (fault 12 0) room)) (side_places 0 p net F f m) (chosen_places 0 p net F f m)

-- an empty memory is sound
empty_slot : (n i : ℕ) → ◌≡◌ {A = Slot} (get_or (replicate n empty) i empty) empty
empty_slot zero i = refl
empty_slot (suc n) zero = refl
empty_slot (suc n) (suc i) = empty_slot n i

nothing_kept : (b : Bool) (s : ℕ) → Nothing ≡ cond b (Holds s) (Fails s) → ⊥
nothing_kept true s e = cc
nothing_kept false s e = cc

empty_says : (N : Net) (F : List ℕ) (f : ℕ) → Says N F f empty
unfolding Says
empty_says N F f x e = absurd (nothing_kept x.holds x.size e)

empty_sound : (N : Net) (F : List ℕ) (n : ℕ) → Sound N F (replicate n empty)
unfolding Sound
empty_sound N F n i h = subst (λ (y : Slot). Says N F (i / slots_each) y) (sym (empty_slot n i)) (empty_says N F (i / slots_each))

-- what the input checks find has a number
fault_number : (f : InputFault) → eqb (fault_of f).number 0 ≡ false
unfolding fault_of
fault_number BadAsk = refl
fault_number (BadNet r) = refusal_number r
fault_number (Formulas f) = told_number f
fault_number Tree = refl
fault_number Last = refl

module _ (ask net F tree : List ℕ) (sized : tree_sized tree ≡ true) where
  -- refused as the check refuses
  pub refused_input : (f : InputFault) → fault_of f ≡ input_fault ask net F tree → (room : List ℕ)
      → answer_of (Err (Input f)) room ≡ write_answer ask net F room
  unfolding found_of written_of write_answer
  refused_input f e room =
      let g : fault_of f ≡ asked_fault ask net F = e ∙ asked_input ask net F tree sized in
      ap (λ x. refuse x room) g
      ∙ sym (if_false (eqb (asked_fault ask net F).number 0) _ _ (ap (λ x. eqb x.number 0) (sym g) ∙ fault_number f))

  module _ (e : no_fault ≡ input_fault ask net F tree) where
    zero_number : (asked_fault ask net F).number ≡ 0
    zero_number = ap (λ f. f.number) (sym (e ∙ asked_input ask net F tree sized))

    pub admitted : Admitted ask net F tree
    admitted = input_passed ask net F tree (ap (λ f. f.number) (sym e))

    pub ask_whole : ask_size_lem ≤ length ask
    ask_whole = ask-bytes ask admitted.ask-good

    module _ (a : Ask) (isAsk : a ≡ ask_of ask) where
      pub formula_inside : a.formula < formulas F
      unfolding ask_inside
      formula_inside =
          subst (λ (x : Ask). x.formula < formulas F) (sym isAsk)
          (ltb-true _ _ (and_right (within (ask_of ask).places (ask_of ask).marking) (ltb (ask_of ask).formula (formulas F)) admitted.ask-inside))

      -- a formula with until
      pub refused-until : until_free (formula F a.formula) ≡ false → (room : List ℕ) → answer_of (Err Until) room ≡ write_answer ask net F room
      unfolding found_of written_of write_answer
      refused-until u room =
          sym (if_true _ _ _ (eq-eqb _ 0 zero_number) ∙ if_false _ _ _ (ap (λ (x : Ask). until_free (formula F x.formula)) (sym isAsk) ∙ u))

      -- the tree
      pub answered : until_free (formula F a.formula) ≡ true → (room : List ℕ) (x : Answer)
          → x ≡ tree_answer (net_of 0 net) F a.formula a.marking room → x ≡ write_answer ask net F room
      unfolding write_answer net_for
      answered u room x q =
          q
          ∙ ap (λ (y : Ask). tree_answer (net_of 0 net) F y.formula y.marking room) isAsk
          ∙ places_away (ask_of ask).places net F (ask_of ask).formula (ask_of ask).marking room
          ∙ sym (if_true _ _ _ (eq-eqb _ 0 zero_number) ∙ if_true _ _ _ (ap (λ (y : Ask). until_free (formula F y.formula)) (sym isAsk) ∙ u))

      pub ready : until_free (formula F a.formula) ≡ true → (n : ℕ) → n ≡ slots → Ready net F (replicate n empty) a.formula
      ready u n q =
          record {
            sized = admitted.net_sized;
            few = admitted.formulas-sized;
            lower = admitted.formulas_lower;
            inside = formula_inside;
            until-free = u;
            room = length-replicate n empty ∙ q;
            sound = empty_sound (net_of 0 net) F n;
          }

-- a table of one node, all zero, has an allowed size
pub blank_sized : tree_sized (replicate 40 0) ≡ true
unfolding tree_sized sized
blank_sized = refl

-- ---- what a granted answer is worth

pub worth : (ask net F room : List ℕ) (a : Answer) → a ≡ write_answer ask net F room → (a ≡ write_answer ask net F room) × Worth ask net F a
unfolding WrittenIsAccepted
worth ask net F room a e = (e, subst (Worth ask net F) (sym e) (written_is_accepted ask net F room))
