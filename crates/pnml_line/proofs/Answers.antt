-- The answer of writing by an ask, as the code finds it, and what the program leans on: a written text and a read one within bounds. Assumes nothing.
use mathlib.Core.Path.{◌≡◌, refl, sym, ap, ◌∙◌, subst}
use mathlib.Core.Bool.{Bool, true, false, cond, ◌&&◌, false≢true}
use mathlib.Core.List.{List}
use Prim.Native.Nat.{ℕ, ◌*◌, ◌≤◌, ◌<◌, zero-le}
use native.Mathlib.Omega.{arith}
use lib.ListN.{length, length-append}
use lib.Dec.{eqb, leb, ltb}
use borrow.Author.Tests.{eq-eqb, ne_eqb, le-leb, lt-leb}
use Rattle.tables.proofs.Tests.{and_right, failed}
use Rattle.net.specs.Table.{places_good, transition_size}
use Rattle.net.specs.declared.Refusal.TheVariants.{Places}
use Rattle.net.specs.Answer.{fault, refused, load_fault}
use Rattle.nodes.specs.declared.Ask.{Ask}
use Rattle.nodes.specs.Nodes.{ask_size_lem, ask_of}
use Rattle.checker.specs.Outcomes.{ask_good}
use Rattle.checker.proofs.Admitting.{refusal_byte}
use Rattle.std.specs.Prelude.{Result, Ok, Err}
use Rattle.pnml_write.specs.declared.WriteRefusal.{WriteRefusal}
use Rattle.pnml_write.specs.declared.WriteRefusal.TheVariants.{Net, Short}
use Rattle.pnml_write.specs.Answer.{Answer, refuse, found_of, length_of, answer_of, put_answer, text_of, write_answer}
use Rattle.pnml_shape.specs.Machine.{Outcome, stopped, drawn}
use Rattle.pnml_read.specs.declared.Found.{Found}
use Rattle.pnml_read.specs.declared.ReadRefusal.{ReadRefusal}
use Rattle.pnml_read.specs.declared.ReadRefusal.TheVariants.{Shape, Places as NoPlaces, Transitions as NoTransitions, Short as NoRoom}
use Rattle.pnml_read.specs.Answer.{Answer as ReadAnswer, few, granted, drawn_answer, read_answer, number_of, found_of as result_of, answer_of as read_of}
use Rattle.pnml_read.proofs.Answers.{few_most}
use Rattle.pnml_line.specs.Line.{ask_answer}

-- ---- writing by an ask

module _ (ask net room : List ℕ) where
  -- by the test of the ask
  abbrev by_test : Bool → Answer
  by_test b = cond b (write_answer (ask_of ask).places (ask_of ask).marking net room) (refuse (fault 1 0) room)

  ask_bad : ask_good ask ≡ false → answer_of (Err (Net Places)) room ≡ ask_answer ask net room
  unfolding ask_answer found_of length_of refused
  ask_bad e = sym (ap by_test e)

  pub ask_size : (length ask ≡ ask_size_lem → ⊥) → answer_of (Err (Net Places)) room ≡ ask_answer ask net room
  unfolding ask_good
  ask_size d = ask_bad (ap (λ b. b && places_good (ask_of ask).places && leb (ask_of ask).side 1) (ne_eqb (length ask) ask_size_lem d))

  pub ask_side : (a : Ask) → a ≡ ask_of ask → 1 < a.side → answer_of (Err (Net Places)) room ≡ ask_answer ask net room
  unfolding ask_good
  ask_side a e h =
      let side : leb (ask_of ask).side 1 ≡ false = ap (λ (x : Ask). leb x.side 1) (sym e) ∙ lt-leb a.side 1 h in
      ask_bad (failed _ (λ t. false≢true (sym side ∙ and_right (eqb (length ask) ask_size_lem && places_good (ask_of ask).places) _ t)))

  -- an ask that has places which no net has is refused as writing refuses them
  places_refused : (places m : ℕ) → places_good places ≡ false → write_answer places m net room ≡ refuse (fault 1 0) room
  unfolding write_answer load_fault
  places_refused places m e = simp e

  pub ask-good : (a : Ask) → length ask ≡ ask_size_lem → a ≡ ask_of ask → a.side ≤ 1 → (w : Answer) → w ≡ write_answer a.places a.marking net room
      → w ≡ ask_answer ask net room
  unfolding ask_answer ask_good
  ask-good a l e h w q =
      q ∙ ap (λ (x : Ask). write_answer x.places x.marking net room) e
      ∙ by (places_good (ask_of ask).places) refl
      ∙ ap (λ b. by_test (b && places_good (ask_of ask).places && leb (ask_of ask).side 1)) (sym (eq-eqb (length ask) ask_size_lem l))
    where
      side : leb (ask_of ask).side 1 ≡ true
      side = ap (λ (x : Ask). leb x.side 1) (sym e) ∙ le-leb a.side 1 h

      by : (b : Bool) → places_good (ask_of ask).places ≡ b
          → write_answer (ask_of ask).places (ask_of ask).marking net room ≡ by_test (true && places_good (ask_of ask).places && leb (ask_of ask).side 1)
      by true p = simp (p, side)
      by false p = places_refused _ _ p ∙ simp (p, side)

-- ---- bounds: a refusal's number is a byte, a written text lies in its room, a read one has at most 64 places and 64 records

pub written_byte : (w : Result ℕ WriteRefusal) → (found_of w).number ≤ 255
unfolding found_of
written_byte (Ok n) = omega arith
written_byte (Err Short) = omega arith
written_byte (Err (Net r)) = omega (arith, refusal_byte r)

pub read_byte : (r : Result Found ReadRefusal) → number_of r ≤ 255
unfolding number_of
read_byte (Ok f) = omega arith
read_byte (Err (Shape k)) = omega arith
read_byte (Err NoPlaces) = omega arith
read_byte (Err NoTransitions) = omega arith
read_byte (Err NoRoom) = omega arith

-- what both choices have
both {ℓ} : {A : Type ℓ} (P : A → Type 0) (b : Bool) {x y : A} → (b ≡ true → P x) → (b ≡ false → P y) → P (cond b x y)
both P true f g = f refl
both P false f g = g refl

abbrev Inside : Answer → Type 0
Inside a = a.length ≤ length a.room

ask-inside : (ask net room : List ℕ) → Inside (ask_answer ask net room)
unfolding ask_answer write_answer put_answer
ask-inside ask net room =
    both Inside (ask_good ask)
    (λ e.
    both Inside (eqb (load_fault (ask_of ask).places (ask_of ask).marking net).number 0)
    (λ p.
    both Inside (ltb (length room) (length (text_of (ask_of ask).places (ask_of ask).marking net)))
    (λ q. zero-le)
    (λ q. simp length-append (omega arith)))
    (λ p. zero-le))
    (λ e. zero-le)

-- the text that was written
pub written_inside : (ask net room : List ℕ) {room' : List ℕ} {w : Result ℕ WriteRefusal} (n : ℕ) → answer_of w room' ≡ ask_answer ask net room → w ≡ Ok n → n ≤ length room'
unfolding length_of
written_inside ask net room {room'} n h e = subst Inside (sym h ∙ ap (λ x. answer_of x room') e) (ask-inside ask net room)

-- what was read
abbrev Bounded : ReadAnswer → Type 0
Bounded a = (a.places ≤ 64) × (a.length ≤ 1536)

read_bounded : (o : Outcome) (room : List ℕ) → Bounded (read_answer o room)
unfolding read_answer drawn_answer granted
read_bounded (stopped k) room = (zero-le, zero-le)
read_bounded (drawn d) room =
    both Bounded (few (length d.marks))
    (λ p.
    both Bounded (few (length d.actions))
    (λ q.
    both Bounded (ltb (length room) (length d.actions * transition_size))
    (λ r. (zero-le, zero-le))
    (λ r. let h = few_most _ true (sym q) refl in (few_most _ true (sym p) refl, omega arith)))
    (λ q. (zero-le, zero-le)))
    (λ p. (zero-le, zero-le))

pub found_bounded : (o : Outcome) (room : List ℕ) {room' : List ℕ} (r : Result Found ReadRefusal) → read_of r room' ≡ read_answer o room
    → ((result_of r).places ≤ 64) × ((result_of r).length ≤ 1536)
found_bounded o room r h = subst Bounded (sym h) (read_bounded o room)
