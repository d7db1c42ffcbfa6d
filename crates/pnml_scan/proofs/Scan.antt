-- One step of the scan of a text, for any format and text: a byte of a word, white space, a digit. Assumes nothing.
use mathlib.Core.Path.{◌≡◌, refl, sym, ap, ◌∙◌, subst}
use mathlib.Core.Bool.{Bool, true, false, cond}
use mathlib.Core.List.{List, [], ◌∷◌}
use mathlib.Core.Option.{Option, none, some}
use Prim.Native.Nat.{ℕ, zero, suc, ◌+◌, ◌≤◌, ◌<◌}
use native.Mathlib.Nat.{add-zero, add_assoc}
use native.Mathlib.Numerals.{add-one}
use native.Mathlib.Omega.{arith}
use lib.ListN.{length, drop, get_or, drop_of_length-le}
use lib.Seq.{drop-cons}
use lib.Dec.{eqb, ltb}
use borrow.Author.Tests.{eq-eqb, ne_eqb, ltb-true, ltb-false}
use Rattle.pnml_shape.specs.Shape.{white}
use Rattle.pnml_shape.specs.Drawing.{Drawing}
use Rattle.pnml_shape.specs.Machine.{Format, ends, byte, space, turn, spell, opened, step, stopped, finish, or_stop, scan}
use Rattle.pnml_quick.specs.Serving.{There}
use Rattle.std.specs.Prelude.{Result, Ok, Err}
use Rattle.pnml_scan.specs.declared.Left.{Left}
use Rattle.pnml_scan.specs.Serving.{Keeps, Part, Skipped, Word}

-- ---- any format

-- the byte at an offset, and the rest
pub at_byte : (t : List ℕ) (k : ℕ) (F : Format) → k < length t
    → scan F k (drop k t) ≡ or_stop (step F (get_or t k 0)) k (λ G. scan G (k + 1) (drop (k + 1) t))
unfolding scan
at_byte t k F h =
    ap (λ (s : List ℕ). scan F k s) (drop-cons t k 0 h)
    ∙ ap (λ (n : ℕ). or_stop (step F (get_or t k 0)) k (λ G. scan G (k + 1) (drop n t))) (sym (add-one k))

-- a byte that is taken, and one that is not
pub taken : (t : List ℕ) (k : ℕ) (F G : Format) → k < length t → step F (get_or t k 0) ≡ some G → scan F k (drop k t) ≡ scan G (k + 1) (drop (k + 1) t)
unfolding or_stop
taken t k F G h e = at_byte t k F h ∙ ap (λ (o : Option Format). or_stop o k (λ G. scan G (k + 1) (drop (k + 1) t))) e

pub refused : (t : List ℕ) (k : ℕ) (F : Format) → k < length t → step F (get_or t k 0) ≡ none → scan F k (drop k t) ≡ stopped k
unfolding or_stop
refused t k F h e = at_byte t k F h ∙ ap (λ (o : Option Format). or_stop o k (λ G. scan G (k + 1) (drop (k + 1) t))) e

-- the end of the text
pub at_end : (t : List ℕ) (k : ℕ) (F : Format) → length t ≤ k → scan F k (drop k t) ≡ finish F k
unfolding scan
at_end t k F h = ap (λ (s : List ℕ). scan F k s) (drop_of_length-le t h)

-- two formats that take the byte alike, and end alike
pub alike : (t : List ℕ) (k : ℕ) (F G : Format) → (k < length t → step F (get_or t k 0) ≡ step G (get_or t k 0))
    → (length t ≤ k → finish F k ≡ finish G k) → scan F k (drop k t) ≡ scan G k (drop k t)
alike t k F G p q = by (ltb k (length t)) refl
  where
    by : (b : Bool) → ltb k (length t) ≡ b → scan F k (drop k t) ≡ scan G k (drop k t)
    by true e =
        let h = ltb-true k (length t) e in
        at_byte t k F h ∙ ap (λ (o : Option Format). or_stop o k (λ G. scan G (k + 1) (drop (k + 1) t))) (p h) ∙ sym (at_byte t k G h)
    by false e = let h = ltb-false k (length t) e in at_end t k F h ∙ q h ∙ sym (at_end t k G h)

-- ---- a word

-- what is left of the word after its first i bytes
pub word_left : (w : List ℕ) (i : ℕ) (F : Format) → i < length w → spell (drop i w) F ≡ byte (get_or w i 0) (spell (drop (i + 1) w) F)
unfolding spell
word_left w i F h =
    ap (λ (s : List ℕ). spell s F) (drop-cons w i 0 h) ∙ ap (λ (n : ℕ). byte (get_or w i 0) (spell (drop n w) F)) (sym (add-one i))

pub byte_taken : (b c : ℕ) (F : Format) → b ≡ c → step (byte c F) b ≡ some F
unfolding step
byte_taken b c F e = ap (λ (x : Bool). cond x (some F) none) (eq-eqb b c e)

pub byte_other : (b c : ℕ) (F : Format) → (b ≡ c → ⊥) → step (byte c F) b ≡ none
unfolding step
byte_other b c F e = ap (λ (x : Bool). cond x (some F) none) (ne_eqb b c e)

-- the first i bytes of the word are there
pub record Spelled (t : List ℕ) (at : ℕ) (w : List ℕ) (i : ℕ) : Type 0 where
  pub part : i ≤ length w
  pub inside : at + i ≤ length t
  pub same : (F : Format) → scan (spell w F) at (drop at t) ≡ scan (spell (drop i w) F) (at + i) (drop (at + i) t)

pub spelled_none : (t : List ℕ) (at : ℕ) (w : List ℕ) → at ≤ length t → Spelled t at w 0
spelled_none t at w h =
    record {
      part = omega arith;
      inside = omega arith;
      same = λ F. ap (λ (k : ℕ). scan (spell w F) k (drop k t)) (sym (add-zero at));
    }

pub spelled_more : (t : List ℕ) (at : ℕ) (w : List ℕ) (i : ℕ) → Spelled t at w i → i < length w → at + i < length t
    → get_or t (at + i) 0 ≡ get_or w i 0 → Spelled t at w (i + 1)
spelled_more t at w i s h k e =
    record {
      part = omega arith;
      inside = omega arith;
      same = λ F.
          s.same F
          ∙ ap (λ (G : Format). scan G (at + i) (drop (at + i) t)) (word_left w i F h)
          ∙ taken t (at + i) (byte (get_or w i 0) (spell (drop (i + 1) w) F)) (spell (drop (i + 1) w) F) k
          (byte_taken (get_or t (at + i) 0) (get_or w i 0) (spell (drop (i + 1) w) F) e)
          ∙ ap (λ (n : ℕ). scan (spell (drop (i + 1) w) F) n (drop n t)) (add_assoc at i 1);
    }

-- the text ends in the word
pub spelled_short : (t : List ℕ) (at : ℕ) (w : List ℕ) (i : ℕ) → Spelled t at w i → i < length w → length t ≤ at + i
    → Word t at w (Err (record { at = at + i }))
unfolding finish
spelled_short t at w i s h k =
    record {
      inside = s.inside;
      from = omega arith;
      same = λ F.
          s.same F
          ∙ ap (λ (G : Format). scan G (at + i) (drop (at + i) t)) (word_left w i F h)
          ∙ at_end t (at + i) (byte (get_or w i 0) (spell (drop (i + 1) w) F)) k;
    }

-- another byte than the word's
pub spelled_other : (t : List ℕ) (at : ℕ) (w : List ℕ) (i : ℕ) → Spelled t at w i → i < length w → at + i < length t
    → (get_or t (at + i) 0 ≡ get_or w i 0 → ⊥) → Word t at w (Err (record { at = at + i }))
spelled_other t at w i s h k e =
    record {
      inside = s.inside;
      from = omega arith;
      same = λ F.
          s.same F
          ∙ ap (λ (G : Format). scan G (at + i) (drop (at + i) t)) (word_left w i F h)
          ∙ refused t (at + i) (byte (get_or w i 0) (spell (drop (i + 1) w) F)) k
          (byte_other (get_or t (at + i) 0) (get_or w i 0) (spell (drop (i + 1) w) F) e);
    }

-- the whole word
pub spelled_all : (t : List ℕ) (at : ℕ) (w : List ℕ) (i : ℕ) → Spelled t at w i → length w ≤ i → Word t at w (Ok (at + length w))
unfolding spell
spelled_all t at w i s h =
    let e : i ≡ length w = omega (arith, s.part) in
    record {
      inside = omega (arith, s.inside);
      from = omega arith;
      same = λ F.
          s.same F
          ∙ ap (λ (l : List ℕ). scan (spell l F) (at + i) (drop (at + i) t)) (drop_of_length-le w h)
          ∙ ap (λ (n : ℕ). scan F (at + n) (drop (at + n) t)) e;
    }

-- so it is where its bytes are there
there_spelled : (t : List ℕ) (at : ℕ) (w : List ℕ) → There t at w → (i : ℕ) → i ≤ length w → Spelled t at w i
there_spelled t at w h zero p = spelled_none t at w (omega (arith, h.inside))
there_spelled t at w h (suc i) p =
    subst (λ (n : ℕ). Spelled t at w n) (add-one i)
    (spelled_more t at w i (there_spelled t at w h i (omega arith)) (omega arith) (omega (arith, h.inside)) (h.same.each i (omega arith) (omega arith)))

pub there_word : (t : List ℕ) (at : ℕ) (w : List ℕ) → There t at w → Word t at w (Ok (at + length w))
there_word t at w h = spelled_all t at w (length w) (there_spelled t at w h (length w) (omega arith)) (omega arith)

-- ---- white space

-- so far white space
pub record Passed (t : List ℕ) (at i : ℕ) : Type 0 where
  pub inside : i ≤ length t
  pub from : at ≤ i
  pub same : (F : Format) → Keeps F → scan F at (drop at t) ≡ scan F i (drop i t)

pub passed_none : (t : List ℕ) (at : ℕ) → at ≤ length t → Passed t at at
passed_none t at h = record { inside = h; from = omega arith; same = λ F k. refl }

pub passed_more : (t : List ℕ) (at i : ℕ) → Passed t at i → i < length t → white (get_or t i 0) ≡ true → Passed t at (i + 1)
passed_more t at i p h w =
    record { inside = omega arith; from = omega (arith, p.from); same = λ F k. p.same F k ∙ taken t i F F h (k (get_or t i 0) w) }

pub passed_all : (t : List ℕ) (at i : ℕ) → Passed t at i → (i < length t → white (get_or t i 0) ≡ false) → Skipped t at i
passed_all t at i p w = record { inside = p.inside; from = p.from; stops = w; same = p.same }

-- the formats that white space leaves as they are
pub space_keeps : (F : Format) → Keeps (space F)
unfolding step
space_keeps F b w = ap (λ (x : Bool). cond x (some (space F)) (step F b)) w

pub turn_keeps : (d : Drawing) → Keeps (turn d)
unfolding step
turn_keeps d b w = ap (λ (x : Bool). cond x (some (turn d)) (cond (eqb b 60) (some (opened d)) none)) w

pub ends_keeps : (d : Drawing) → Keeps (ends d)
unfolding step
ends_keeps d b w = ap (λ (x : Bool). cond x (some (ends d)) none) w

-- white space is over where the next byte is none
pub space_over : (t : List ℕ) (k : ℕ) (F : Format) → (k < length t → white (get_or t k 0) ≡ false) → finish F k ≡ stopped k
    → scan (space F) k (drop k t) ≡ scan F k (drop k t)
unfolding step finish
space_over t k F w e =
    alike t k (space F) F (λ h. ap (λ (x : Bool). cond x (some (space F)) (step F (get_or t k 0))) (w h)) (λ h. sym e)

-- a word that has a byte is not at its end
pub word_firm : (w : List ℕ) (F : Format) (k : ℕ) → 0 < length w → finish (spell w F) k ≡ stopped k
unfolding spell finish
word_firm [] F k h = absurd (omega arith)
word_firm (b ∷ w) F k h = refl

-- white space, then a word
pub tag_of : {t : List ℕ} {at k : ℕ} (w : List ℕ) {r : Result ℕ Left} → 0 < length w → Skipped t at k → Word t k w r
    → Part t at (λ F. space (spell w F)) r
tag_of {t} {at} {k} w h s p =
    record {
      inside = p.inside;
      from = omega (arith, s.from, p.from);
      same = λ F.
          s.same (space (spell w F)) (space_keeps (spell w F))
          ∙ space_over t k (spell w F) s.stops (word_firm w F k h)
          ∙ p.same F;
    }

-- ---- a turn

-- the next byte opens a tag, or is another one
pub turn_open : (t : List ℕ) (k : ℕ) (d : Drawing) → k < length t → get_or t k 0 ≡ 60
    → scan (turn d) k (drop k t) ≡ scan (opened d) (k + 1) (drop (k + 1) t)
unfolding step white
turn_open t k d h e = taken t k (turn d) (opened d) h (ap (λ (b : ℕ). step (turn d) b) e)

pub turn_other : (t : List ℕ) (k : ℕ) (d : Drawing) → k < length t → white (get_or t k 0) ≡ false → (get_or t k 0 ≡ 60 → ⊥)
    → scan (turn d) k (drop k t) ≡ stopped k
unfolding step
turn_other t k d h w n = refused t k (turn d) h (simp (w, ne_eqb (get_or t k 0) 60 n))
