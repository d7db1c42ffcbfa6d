-- What the machine reads, and what must have stood there where it has read it: words, white space, and one byte of two. Assumes nothing.
use mathlib.Core.Path.{◌≡◌, refl, sym, ap, ◌∙◌}
use mathlib.Core.Bool.{Bool, true, false, cond, ◌&&◌, false≢true}
use mathlib.Core.List.{List, [], ◌∷◌, ◌++◌}
use mathlib.Core.Logic.{◌⊎◌, inl, inr}
use mathlib.Core.Option.{Option, none, some}
use Prim.Native.Nat.{ℕ, zero, suc, ◌+◌}
use native.Mathlib.Omega.{arith}
use lib.ListN.{length}
use lib.Dec.{eqb}
use borrow.Author.Tests.{eqb-true, eq-eqb}
use Rattle.tables.proofs.Tests.{and_left, and_right, and_intro, if_true, if_false, passed}
use Rattle.pnml_shape.specs.Drawing.{Drawing}
use Rattle.pnml_shape.specs.Shape.{white, all_white}
use Rattle.pnml_shape.specs.Machine.{Format, ends, byte, space, either, number, digits, turn, spell, opened, step, Outcome, stopped, drawn, finish, or_stop, scan}

-- the format reads the text as this drawing, at whatever offset it stands
abbrev pub Reads : Format → List ℕ → Drawing → Type 0
Reads F s d = (at : ℕ) → scan F at s ≡ drawn d

pub stopped≢drawn : {k : ℕ} {d : Drawing} → stopped k ≡ drawn d → ⊥
stopped≢drawn e = let z : ◌≡◌ {A = ℕ} 0 1 = cc in omega arith

-- ---- the offset does not matter to what is drawn

finish_anywhere : (F : Format) (at at' : ℕ) (d : Drawing) → finish F at ≡ drawn d → finish F at' ≡ drawn d
unfolding finish
finish_anywhere (ends x) at at' d e = e
finish_anywhere (byte c F) at at' d e = absurd (stopped≢drawn e)
finish_anywhere (space F) at at' d e = absurd (stopped≢drawn e)
finish_anywhere (either c ok F G) at at' d e = absurd (stopped≢drawn e)
finish_anywhere (number lo hi K) at at' d e = absurd (stopped≢drawn e)
finish_anywhere (digits v lo hi K) at at' d e = absurd (stopped≢drawn e)
finish_anywhere (turn x) at at' d e = absurd (stopped≢drawn e)

pub anywhere : (s : List ℕ) (F : Format) (at : ℕ) (d : Drawing) → scan F at s ≡ drawn d → Reads F s d
unfolding scan or_stop
anywhere [] F at d e at' = finish_anywhere F at at' d e
anywhere (b ∷ s) F at d e at' = by (step F b) (λ G k h. anywhere s G k d h) e
  where
    by : (o : Option Format) → ((G : Format) (k : ℕ) → scan G k s ≡ drawn d → Reads G s d)
        → or_stop o at (λ G. scan G (at + 1) s) ≡ drawn d
        → or_stop o at' (λ G. scan G (at' + 1) s) ≡ drawn d
    by none rest h = absurd (stopped≢drawn h)
    by (some G) rest h = rest G (at + 1) h (at' + 1)

-- ---- one byte

-- the format moves on by a byte
pub moves : (F G : Format) (b : ℕ) (s : List ℕ) (d : Drawing) → step F b ≡ some G → Reads G s d → Reads F (b ∷ s) d
unfolding scan or_stop
moves F G b s d e h at = ap (λ o. or_stop o at (λ H. scan H (at + 1) s)) e ∙ h (at + 1)

-- two formats that take a byte alike read alike
pub alike : (F G : Format) (b : ℕ) (s : List ℕ) (at : ℕ) → step F b ≡ step G b → scan F at (b ∷ s) ≡ scan G at (b ∷ s)
unfolding scan
alike F G b s at e = ap (λ o. or_stop o at (λ H. scan H (at + 1) s)) e

-- a byte that was read leads to a format
pub moved : (F : Format) (b : ℕ) (s : List ℕ) (d : Drawing) → Reads F (b ∷ s) d → (G : Format) × (step F b ≡ some G) × Reads G s d
unfolding scan or_stop
moved F b s d h = by (step F b) refl (h 0)
  where
    by : (o : Option Format) → step F b ≡ o → or_stop o 0 (λ G. scan G (0 + 1) s) ≡ drawn d → (G : Format) × (step F b ≡ some G) × Reads G s d
    by none e k = absurd (stopped≢drawn k)
    by (some G) e k = (G, e, anywhere s G (0 + 1) d k)

-- ---- a word

pub spell_on : (w : List ℕ) (F : Format) (s : List ℕ) (d : Drawing) → Reads F s d → Reads (spell w F) (w ++ s) d
unfolding spell step
spell_on [] F s d h = h
spell_on (b ∷ w) F s d h = moves (byte b (spell w F)) (spell w F) b (w ++ s) d (if_true (eqb b b) (some (spell w F)) none (eq-eqb b b refl)) (spell_on w F s d h)

byte_drawn : (c : ℕ) (F : Format) (s : List ℕ) (d : Drawing) → Reads (byte c F) s d → (r : List ℕ) × (s ≡ c ∷ r) × Reads F r d
unfolding finish scan step or_stop
byte_drawn c F [] d h = absurd (stopped≢drawn (h 0))
byte_drawn c F (b ∷ s) d h = by (eqb b c) refl (h 0)
  where
    by : (t : Bool) → eqb b c ≡ t → or_stop (cond t (some F) none) 0 (λ G. scan G (0 + 1) s) ≡ drawn d → (r : List ℕ) × (b ∷ s ≡ c ∷ r) × Reads F r d
    by true e k = (s, ap (λ x. x ∷ s) (eqb-true b c e), anywhere s F (0 + 1) d k)
    by false e k = absurd (stopped≢drawn k)

pub spell_drawn : (w : List ℕ) (F : Format) (s : List ℕ) (d : Drawing) → Reads (spell w F) s d → (r : List ℕ) × (s ≡ w ++ r) × Reads F r d
unfolding spell
spell_drawn [] F s d h = (s, refl, h)
spell_drawn (b ∷ w) F s d h =
    let (r, e, k) = byte_drawn b (spell w F) s d h in
    let (q, f, g) = spell_drawn w F r d k in (q, e ∙ ap (λ x. b ∷ x) f, g)

-- ---- white space

-- formats before which white space may stand
pub record Absorbs (F : Format) : Type 0 where
  pub white_stays : (b : ℕ) → white b ≡ true → step F b ≡ some F

pub space_absorbs : (F : Format) → Absorbs (space F)
unfolding step
space_absorbs F = record { white_stays = λ b h. if_true (white b) (some (space F)) (step F b) h }

pub turn_absorbs : (d : Drawing) → Absorbs (turn d)
unfolding step
turn_absorbs d = record { white_stays = λ b h. if_true (white b) (some (turn d)) (cond (eqb b 60) (some (opened d)) none) h }

pub ends_absorbs : (d : Drawing) → Absorbs (ends d)
unfolding step
ends_absorbs d = record { white_stays = λ b h. if_true (white b) (some (ends d)) none h }

pub white_on : (w : List ℕ) (F : Format) (s : List ℕ) (d : Drawing) → Absorbs F → all_white w ≡ true → Reads F s d → Reads F (w ++ s) d
unfolding all_white
white_on [] F s d a h k = k
white_on (b ∷ w) F s d a h k =
    moves F F b (w ++ s) d (a.white_stays b (and_left (white b) (all_white w) h)) (white_on w F s d a (and_right (white b) (all_white w) h) k)

-- white space that was read, then another byte
pub space_off : (b : ℕ) (F : Format) (s : List ℕ) (d : Drawing) → white b ≡ false → Reads F (b ∷ s) d → Reads (space F) (b ∷ s) d
unfolding step
space_off b F s d h k at = alike (space F) F b s at (if_false (white b) (some (space F)) (step F b) h) ∙ k at

pub space_drawn : (F : Format) (s : List ℕ) (d : Drawing) → Reads (space F) s d
    → (w r : List ℕ) × (all_white w ≡ true) × (s ≡ w ++ r) × Reads F r d
unfolding finish scan step all_white or_stop
space_drawn F [] d h = absurd (stopped≢drawn (h 0))
space_drawn F (b ∷ s) d h = by (white b) refl (λ k. space_drawn F s d k)
  where
    by : (t : Bool) → white b ≡ t → (Reads (space F) s d → (w r : List ℕ) × (all_white w ≡ true) × (s ≡ w ++ r) × Reads F r d)
        → (w r : List ℕ) × (all_white w ≡ true) × (b ∷ s ≡ w ++ r) × Reads F r d
    by true e rest =
        let k : Reads (space F) s d = λ at. anywhere s (space F) (0 + 1) d (sym (ap (λ o. or_stop o 0 (λ G. scan G (0 + 1) s)) (if_true (white b) (some (space F)) (step F b) e)) ∙ h 0) at in
        let (w, r, a, q, g) = rest k in (b ∷ w, r, and_intro (white b) (all_white w) e a, ap (λ x. b ∷ x) q, g)
    by false e rest =
        ([], b ∷ s, refl, refl, λ at. sym (ap (λ o. or_stop o at (λ G. scan G (at + 1) s)) (if_false (white b) (some (space F)) (step F b) e)) ∙ h at)

pub ends_drawn : (x : Drawing) (s : List ℕ) (d : Drawing) → Reads (ends x) s d → (all_white s ≡ true) × (x ≡ d)
unfolding finish scan step all_white or_stop
ends_drawn x [] d h = let e : drawn x ≡ drawn d = h 0 in (refl, cc)
ends_drawn x (b ∷ s) d h = by (white b) refl (h 0) (λ k. ends_drawn x s d k)
  where
    by : (t : Bool) → white b ≡ t → or_stop (cond t (some (ends x)) none) 0 (λ G. scan G (0 + 1) s) ≡ drawn d
        → (Reads (ends x) s d → (all_white s ≡ true) × (x ≡ d)) → ((white b && all_white s) ≡ true) × (x ≡ d)
    by true e k rest = let (a, q) = rest (anywhere s (ends x) (0 + 1) d k) in (and_intro (white b) (all_white s) e a, q)
    by false e k rest = absurd (stopped≢drawn k)

-- ---- a further element or the end

pub turn_drawn : (x : Drawing) (s : List ℕ) (d : Drawing) → Reads (turn x) s d
    → (w r : List ℕ) × (all_white w ≡ true) × (s ≡ w ++ (60 ∷ r)) × Reads (opened x) r d
unfolding finish scan step all_white or_stop
turn_drawn x [] d h = absurd (stopped≢drawn (h 0))
turn_drawn x (b ∷ s) d h = by (white b) refl (h 0) (λ k. turn_drawn x s d k)
  where
    is : (t : Bool) → eqb b 60 ≡ t → or_stop (cond t (some (opened x)) none) 0 (λ G. scan G (0 + 1) s) ≡ drawn d
        → (w r : List ℕ) × (all_white w ≡ true) × (b ∷ s ≡ w ++ (60 ∷ r)) × Reads (opened x) r d
    is true e k = ([], s, refl, ap (λ c. c ∷ s) (eqb-true b 60 e), anywhere s (opened x) (0 + 1) d k)
    is false e k = absurd (stopped≢drawn k)

    by : (t : Bool) → white b ≡ t → or_stop (cond t (some (turn x)) (cond (eqb b 60) (some (opened x)) none)) 0 (λ G. scan G (0 + 1) s) ≡ drawn d
        → (Reads (turn x) s d → (w r : List ℕ) × (all_white w ≡ true) × (s ≡ w ++ (60 ∷ r)) × Reads (opened x) r d)
        → (w r : List ℕ) × (all_white w ≡ true) × (b ∷ s ≡ w ++ (60 ∷ r)) × Reads (opened x) r d
    by true e k rest =
        let (w, r, a, q, g) = rest (anywhere s (turn x) (0 + 1) d k) in (b ∷ w, r, and_intro (white b) (all_white w) e a, ap (λ c. b ∷ c) q, g)
    by false e k rest = is (eqb b 60) refl k

pub turn_on : (x : Drawing) (s : List ℕ) (d : Drawing) → Reads (opened x) s d → Reads (turn x) (60 ∷ s) d
unfolding step white
turn_on x s d h = moves (turn x) (opened x) 60 s d refl h

-- ---- one byte of two

pub either_first : (c : ℕ) (ok : Bool) (F G : Format) (s : List ℕ) (d : Drawing) → ok ≡ true → Reads F s d → Reads (either c ok F G) (c ∷ s) d
unfolding step
either_first c ok F G s d h k = moves (either c ok F G) F c s d (if_true (eqb c c && ok) (some F) (step G c) (and_intro (eqb c c) ok (eq-eqb c c refl) h)) k

-- another byte goes to the second
pub either_second : (c : ℕ) (ok : Bool) (F G : Format) (b : ℕ) (s : List ℕ) (d : Drawing) → (eqb b c && ok) ≡ false → Reads G (b ∷ s) d
    → Reads (either c ok F G) (b ∷ s) d
unfolding step
either_second c ok F G b s d h k at = alike (either c ok F G) G b s at (if_false (eqb b c && ok) (some F) (step G b) h) ∙ k at

pub either_drawn : (c : ℕ) (ok : Bool) (F G : Format) (s : List ℕ) (d : Drawing) → Reads (either c ok F G) s d
    → ((ok ≡ true) × ((r : List ℕ) × (s ≡ c ∷ r) × Reads F r d)) ⊎ Reads G s d
unfolding finish scan step or_stop
either_drawn c ok F G [] d h = absurd (stopped≢drawn (h 0))
either_drawn c ok F G (b ∷ s) d h = by (eqb b c && ok) refl
  where
    by : (t : Bool) → (eqb b c && ok) ≡ t → ((ok ≡ true) × ((r : List ℕ) × (b ∷ s ≡ c ∷ r) × Reads F r d)) ⊎ Reads G (b ∷ s) d
    by true e =
        inl (
          and_right (eqb b c) ok e,
          (
            s,
            ap (λ x. x ∷ s) (eqb-true b c (and_left (eqb b c) ok e)),
            anywhere s F (0 + 1) d (sym (ap (λ o. or_stop o 0 (λ H. scan H (0 + 1) s)) (if_true (eqb b c && ok) (some F) (step G b) e)) ∙ h 0),
          ),
        )
    by false e = inr (λ at. sym (ap (λ o. or_stop o at (λ H. scan H (at + 1) s)) (if_false (eqb b c && ok) (some F) (step G b) e)) ∙ h at)
