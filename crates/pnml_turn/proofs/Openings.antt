-- What follows `<`, by the byte there. Assumes nothing.
use mathlib.Core.Path.{◌≡◌, refl, sym, ap, ◌∙◌}
use mathlib.Core.Bool.{Bool, true, false, cond, ◌&&◌}
use mathlib.Core.List.{List}
use mathlib.Core.Option.{Option, none, some}
use Prim.Native.Nat.{ℕ, ◌+◌, ◌≤◌, ◌<◌}
use native.Mathlib.Omega.{arith}
use lib.ListN.{length, get_or}
use lib.Dec.{eqb, ltb}
use borrow.Author.Tests.{eqb-true, eq-eqb, ne_eqb, ltb-true}
use Rattle.tables.proofs.Tests.{and_left, and_right, if_true, if_false}
use Rattle.pnml_shape.specs.Drawing.{Arc, Drawing}
use Rattle.pnml_shape.specs.Machine.{Format, place_format, transition_format, arc_format, closing, opened, turn, arc_open, step, finish}
use Rattle.std.specs.Prelude.{Result, Ok, Err}
use Rattle.pnml_scan.specs.declared.Left.{Left}
use Rattle.pnml_scan.specs.Serving.{Skipped, Open}
use Rattle.pnml_scan.proofs.Scan.{taken, refused, at_end, turn_keeps, turn_open, turn_other}
use Rattle.pnml_turn.specs.declared.Turn.{Turn}
use Rattle.pnml_turn.specs.declared.Turn.TheVariants.{Place, Transition, Join, End}
use Rattle.pnml_turn.specs.Serving.{turned, Sane, Alone, Fits, Seen}

-- a turn that ends not before an offset ends not before a lower one
sane_lower : (t : List ℕ) (low from P T : ℕ) (r : Result Turn Left) → low ≤ from → Sane t from P T r → Sane t low P T r
unfolding Sane
sane_lower t low from P T (Ok (Place n)) l (a, b, c) = (omega arith, b, c)
sane_lower t low from P T (Ok (Transition n)) l (a, b, c) = (omega arith, b, c)
sane_lower t low from P T (Ok (Join a)) l (x, b, c, d) = (omega arith, b, c, d)
sane_lower t low from P T (Ok End) l s = s
sane_lower t low from P T (Err e) l s = s

-- the formats after `<`, where the counts are at hand
choice : (d : Drawing) (P T A : ℕ) (l : Arc) (b : ℕ) → Option Format
choice d P T A l b =
    cond (eqb b 112 && eqb T 0) (some (place_format d))
    (cond (eqb b 116 && eqb A 0) (some (transition_format d))
    (cond (eqb b 97 && arc_open P T l) (some (arc_format d P T l)) (cond (eqb b 47) (some (closing d)) none)))

opened_choice : (d : Drawing) (P T A : ℕ) (l : Arc) (b : ℕ) → Fits d P T A l → step (opened d) b ≡ choice d P T A l b
unfolding opened step choice
opened_choice d P T A l b f = rw (f.transitions, f.arcs, f.places, f.first) refl

module _ (t : List ℕ) (at P T A : ℕ) (l : Arc) where
  -- the byte at the offset
  abbrev here : ℕ
  here = get_or t at 0

  -- nothing follows
  pub opened_end : length t ≤ at → Seen t at (at + 1) P T A l opened (Err (record { at = at }))
  unfolding Sane Alone turned opened finish
  opened_end h = record { sane = tt; alone = tt; same = λ d f. at_end t at (opened d) h }

  -- the byte leads to a format from which this turn is seen
  leads : (F : Drawing → Format) (r : Result Turn Left) → at < length t → ((d : Drawing) → choice d P T A l here ≡ some (F d)) → Seen t (at + 1) (at + 1) P T A l F r
      → Seen t at (at + 1) P T A l opened r
  leads F r h e s =
      record {
        sane = s.sane;
        alone = s.alone;
        same = λ d f. taken t at (opened d) (F d) h (opened_choice d P T A l here f ∙ e d) ∙ s.same d f;
      }

  pub opened_place : (r : Result Turn Left) → at < length t → (eqb here 112 && eqb T 0) ≡ true
      → ((T A : ℕ) (l : Arc) → T ≡ 0 → Seen t (at + 1) (at + 1) P T A l place_format r) → Seen t at (at + 1) P T A l opened r
  unfolding choice
  opened_place r h e s =
      leads place_format r h (λ d. if_true (eqb here 112 && eqb T 0) _ _ e) (s T A l (eqb-true T 0 (and_right (eqb here 112) (eqb T 0) e)))

  pub opened_transition : (r : Result Turn Left) → at < length t → (eqb here 112 && eqb T 0) ≡ false → (eqb here 116 && eqb A 0) ≡ true
      → ((P A : ℕ) (l : Arc) → Seen t (at + 1) (at + 1) P T A l transition_format r) → Seen t at (at + 1) P T A l opened r
  unfolding choice
  opened_transition r h a e s =
      leads transition_format r h (λ d. if_false (eqb here 112 && eqb T 0) _ _ a ∙ if_true (eqb here 116 && eqb A 0) _ _ e) (s P A l)

  pub opened_arc : (r : Result Turn Left) → at < length t → (eqb here 112 && eqb T 0) ≡ false → (eqb here 116 && eqb A 0) ≡ false → (o : Bool) → o ≡ arc_open P T l
      → (eqb here 97 && o) ≡ true → Seen t (at + 1) (at + 1) P T A l (λ d. arc_format d P T l) r → Seen t at (at + 1) P T A l opened r
  unfolding choice
  opened_arc r h a b o q e s =
      leads (λ d. arc_format d P T l) r h
      (λ d. if_false (eqb here 112 && eqb T 0) _ _ a ∙ if_false (eqb here 116 && eqb A 0) _ _ b ∙ if_true (eqb here 97 && arc_open P T l) _ _ (ap (λ x. eqb here 97 && x) (sym q) ∙ e)) s

  pub opened_closing : (r : Result Turn Left) → at < length t → (eqb here 112 && eqb T 0) ≡ false → (eqb here 116 && eqb A 0) ≡ false
      → (o : Bool) → o ≡ arc_open P T l → (eqb here 97 && o) ≡ false → here ≡ 47
      → ((P T A : ℕ) (l : Arc) → Seen t (at + 1) (at + 1) P T A l closing r) → Seen t at (at + 1) P T A l opened r
  unfolding choice
  opened_closing r h a b o q c e s =
      leads closing r h
      (λ d. if_false (eqb here 112 && eqb T 0) _ _ a ∙ if_false (eqb here 116 && eqb A 0) _ _ b ∙ if_false (eqb here 97 && arc_open P T l) _ _ (ap (λ x. eqb here 97 && x) (sym q) ∙ c)
      ∙ if_true (eqb here 47) _ _ (eq-eqb here 47 e)) (s P T A l)

  pub opened_other : at < length t → (eqb here 112 && eqb T 0) ≡ false → (eqb here 116 && eqb A 0) ≡ false → (o : Bool) → o ≡ arc_open P T l
      → (eqb here 97 && o) ≡ false → (here ≡ 47 → ⊥) → Seen t at (at + 1) P T A l opened (Err (record { at = at }))
  unfolding choice Sane Alone turned
  opened_other h a b o q c e =
      record {
        sane = tt;
        alone = tt;
        same = λ d f. refused t at (opened d) h
            (opened_choice d P T A l here f ∙ if_false (eqb here 112 && eqb T 0) _ _ a ∙ if_false (eqb here 116 && eqb A 0) _ _ b
            ∙ if_false (eqb here 97 && arc_open P T l) _ _ (ap (λ x. eqb here 97 && x) (sym q) ∙ c) ∙ if_false (eqb here 47) _ _ (ne_eqb here 47 e));
      }

-- an arc's byte where an arc can follow
pub arc_found : (t : List ℕ) (at P T : ℕ) (l : Arc) (o : Bool) → o ≡ arc_open P T l → (eqb (get_or t at 0) 97 && o) ≡ true → Open P T l
unfolding arc_open
arc_found t at P T l o e h =
    let k = sym e ∙ and_right (eqb (get_or t at 0) 97) o h in
    record {
      place = ltb-true l.place P (and_left (ltb l.place P) (ltb l.transition T) k);
      transition = ltb-true l.transition T (and_right (ltb l.place P) (ltb l.transition T) k);
    }

-- ---- white space and `<`

module _ (t : List ℕ) (at k P T A : ℕ) (l : Arc) (h : Skipped t at k) where
  pub turn_end : length t ≤ k → Seen t at (at + 1) P T A l turn (Err (record { at = k }))
  unfolding Sane Alone turned finish
  turn_end e = record { sane = tt; alone = tt; same = λ d f. h.same (turn d) (turn_keeps d) ∙ at_end t k (turn d) e }

  pub turn_stops : k < length t → (get_or t k 0 ≡ 60 → ⊥) → Seen t at (at + 1) P T A l turn (Err (record { at = k }))
  unfolding Sane Alone turned
  turn_stops e n = record { sane = tt; alone = tt; same = λ d f. h.same (turn d) (turn_keeps d) ∙ turn_other t k d e (h.stops e) n }

  pub turn_opens : (r : Result Turn Left) → k < length t → get_or t k 0 ≡ 60 → Seen t (k + 1) (k + 1 + 1) P T A l opened r → Seen t at (at + 1) P T A l turn r
  turn_opens r e b s =
      record {
        sane = sane_lower t (at + 1) (k + 1 + 1) P T r (let q = h.from in omega arith) s.sane;
        alone = s.alone;
        same = λ d f. h.same (turn d) (turn_keeps d) ∙ turn_open t k d e b ∙ s.same d f;
      }
