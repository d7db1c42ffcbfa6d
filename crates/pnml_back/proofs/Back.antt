-- A net that was written is read back, with any white space after its pieces. Assumes nothing.
use mathlib.Core.Path.{◌≡◌, refl, sym, ap, ap₂, ◌∙◌}
use mathlib.Core.Bool.{Bool, true, false, cond, ◌&&◌}
use mathlib.Core.List.{List, ◌++◌}
use Prim.Native.Nat.{ℕ, ◌*◌, ◌≤◌, ◌<◌}
use native.Mathlib.Omega.{arith}
use lib.ListN.{length, drop, get_or}
use lib.Dec.{ltb, leb}
use borrow.Author.Tests.{eqb-false, le-leb, leb-true, le-ltb}
use Rattle.tables.proofs.Tests.{and_left, and_right, and_intro, if_true, if_false}
use Rattle.net.specs.Table.{transitions, places_good, transition_size}
use Rattle.net.specs.Answer.{Fault, no_fault, fault, or_else, table_fault, load_fault}
use Rattle.bitset.specs.Sets.{within}
use Rattle.pnml_shape.specs.Drawing.{Drawing, pieces, good, written}
use Rattle.pnml_shape.specs.Shape.{Spaced, Draws, OfShape}
use Rattle.pnml_shape.specs.Machine as machine
use Rattle.pnml_shape.specs.Theorem.{reading}
use Rattle.pnml_shape.proofs.Exact.{exact, written_draws}
use Rattle.pnml_net.specs.Nets.{marking_of, records_of}
use Rattle.pnml_net.specs.Round.{drawn, RoundTrip}
use Rattle.pnml_net.proofs.Round.{round}
use Rattle.net.proofs.Loaded.{Loaded, load_has}
use Rattle.pnml_write.specs.Answer.{text_of}
use Rattle.pnml_read.specs.Answer.{Answer, refuse, few, granted, drawn_answer, read_answer}
use Rattle.pnml_read.proofs.Answers.{same_answer}
use Rattle.pnml_back.specs.Back.{same, Back, ReadBack}

few_true : (n : ℕ) → 1 ≤ n → n ≤ 64 → few n ≡ true
unfolding few
few_true n p q = and_intro (leb 1 n) (leb n 64) (le-leb 1 n p) (le-leb n 64 q)

-- a net that loads has 1 to 64 places
places_few : (places m : ℕ) (bytes : List ℕ) → (load_fault places m bytes).number ≡ 0 → (1 ≤ places) × (places ≤ 64)
unfolding load_fault places_good
places_few places m bytes e = by (leb 1 places && leb places 64) refl e
  where
    by : (b : Bool) → (leb 1 places && leb places 64) ≡ b
        → (cond b (or_else (table_fault places bytes) (cond (within places m) no_fault (fault 7 0))) (fault 1 0)).number ≡ 0
        → (1 ≤ places) × (places ≤ 64)
    by true q h =
        (leb-true 1 places (and_left (leb 1 places) (leb places 64) q), leb-true places 64 (and_right (leb 1 places) (leb places 64) q))
    by false q h = absurd (let z : ◌≡◌ {A = ℕ} 1 0 = h in omega arith)

module _ (places m : ℕ) (bytes : List ℕ) (h : (load_fault places m bytes).number ≡ 0) (b : (i : ℕ) → get_or bytes i 0 < 256) where
  abbrev d : Drawing
  d = drawn places m bytes

  trip : RoundTrip places m bytes
  trip = round places m bytes h b

  size : length d.actions * transition_size ≡ length bytes
  size = ap (λ (k : ℕ). k * transition_size) trip.transitions_back ∙ (load_has places m bytes h).whole

  granted_same : (room : List ℕ) → granted d room ≡ same places m bytes room
  unfolding granted
  granted_same room =
      same_answer trip.places_back trip.marking_back size (ap₂ (λ (x : List ℕ) (k : ℕ). x ++ drop k room) trip.records_back size)

  drawn_same : (room : List ℕ) → length bytes ≤ length room → drawn_answer d room ≡ same places m bytes room
  unfolding drawn_answer
  drawn_same room l =
      let p = places_few places m bytes h in
      let x = trip.places_back in
      let y = trip.transitions_back in
      let u = trip.least in
      let v = trip.most in
      if_true (few (length d.marks)) _ _ (few_true (length d.marks) (omega arith) (omega arith))
      ∙ if_true (few (length d.actions)) _ _ (few_true (length d.actions) (omega arith) (omega arith))
      ∙ if_false (ltb (length room) (length d.actions * transition_size)) _ _
      (le-ltb (length room) (length d.actions * transition_size) (let z = size in omega arith))
      ∙ granted_same room

  back_by : (s room : List ℕ) → Draws s d → length bytes ≤ length room → read_answer (reading s) room ≡ same places m bytes room
  unfolding read_answer
  back_by s room x l = ap (λ o. read_answer o room) (sym (exact.only s (machine.drawn d) x)) ∙ drawn_same room l

  pub back : Back places m bytes
  unfolding text_of
  back =
      record {
        shape = record { drawing = d; draws = written_draws d trip.fine };
        plain = λ room l. back_by (written d) room (written_draws d trip.fine) l;
        spaced = λ s room x l. back_by s room (record { fine = trip.fine; spaced = x }) l;
      }

pub read_back : ReadBack
read_back places m bytes h b = back places m bytes h b
