-- Numbers digit by digit, with no look at their bounds. Assumes nothing.
use mathlib.Core.Path.{◌≡◌, refl, sym, ap, ◌∙◌}
use mathlib.Core.Bool.{Bool, true, false, ◌&&◌, ◌||◌, and-false}
use mathlib.Core.List.{List, [], ◌∷◌, ◌++◌, append_assoc}
use Prim.Native.Nat.{ℕ, ◌+◌, ◌-◌, ◌*◌, ◌≤◌, ◌<◌}
use native.Mathlib.Numerals.{add-one}
use native.Mathlib.Omega.{arith}
use lib.ListN.{length, drop, get_or, length-append}
use lib.Seq.{drop-cons}
use lib.Dec.{ltb, leb, eqb}
use borrow.Author.Tests.{ltb-true, ltb-false, le-leb, lt-leb, leb-true, eqb-false}
use Rattle.tables.proofs.Tests.{and_intro, and_left, and_right}
use Rattle.texts.specs.Text.{decimal}
use Rattle.pnml_shape.specs.Machine.{digit}
use Rattle.pnml_shape.proofs.Numbers.{decimal_byte, decimal_next}
use Rattle.pnml_quick.specs.Serving.{other, Begun, Read}

-- a byte is a digit or another
pub other_low : (b : ℕ) → other b ≡ false → 48 ≤ b
unfolding other
other_low b e = by (ltb b 48) refl e
  where
    by : (x : Bool) → ltb b 48 ≡ x → (x || ltb 57 b) ≡ false → 48 ≤ b
    by true p q = let z : ◌≡◌ {A = ℕ} 0 1 = cc in absurd (omega arith)
    by false p q = ltb-false b 48 p

pub other_high : (b : ℕ) → other b ≡ false → b ≤ 57
unfolding other
other_high b e = by (ltb b 48) refl e
  where
    by : (x : Bool) → ltb b 48 ≡ x → (x || ltb 57 b) ≡ false → b ≤ 57
    by true p q = let z : ◌≡◌ {A = ℕ} 0 1 = cc in absurd (omega arith)
    by false p q = ltb-false 57 b q

pub other_digit : (b : ℕ) → other b ≡ false → digit b ≡ true
unfolding digit
other_digit b e = and_intro _ _ (le-leb 48 b (other_low b e)) (le-leb b 57 (other_high b e))

pub other_none : (b : ℕ) → other b ≡ true → digit b ≡ false
unfolding other digit
other_none b e = by (ltb b 48) refl e
  where
    by : (x : Bool) → ltb b 48 ≡ x → (x || ltb 57 b) ≡ true → (leb 48 b && leb b 57) ≡ false
    by true p q = simp (lt-leb 48 b (ltb-true b 48 p))
    by false p q = simp (lt-leb b 57 (ltb-true 57 b q), and-false)

-- the byte at an offset, and the rest
ahead : (t : List ℕ) (k : ℕ) → k < length t → drop k t ≡ get_or t k 0 ∷ drop (k + 1) t
ahead t k h = drop-cons t k 0 h ∙ ap (λ (n : ℕ). get_or t k 0 ∷ drop n t) (sym (add-one k))

-- the first digit
pub begun_one : (t : List ℕ) (at r : ℕ) → at < length t → other (get_or t at 0) ≡ false → r ≡ get_or t at 0 - 48 → Begun t at (at + 1) r
begun_one t at r h e w =
    let d = ap decimal w ∙ decimal_byte (get_or t at 0) (other_digit (get_or t at 0) e) in
    record {
      inside = omega arith;
      text = ahead t at h ∙ ap (λ (l : List ℕ). l ++ drop (at + 1) t) (sym d);
      size = omega (arith, ap length d);
    }

-- a further digit
pub begun_more : (t : List ℕ) (at k v r : ℕ) → Begun t at k v → k < length t → other (get_or t k 0) ≡ false → 0 < v
    → r ≡ get_or t k 0 - 48 → Begun t at (k + 1) (10 * v + r)
begun_more t at k v r s h e z w =
    let b : ℕ = get_or t k 0 in
    let d = ap (λ (x : ℕ). decimal (10 * v + x)) w ∙ decimal_next v b z (other_digit b e) in
    record {
      inside = omega arith;
      text =
          s.text
          ∙ ap (λ (l : List ℕ). decimal v ++ l) (ahead t k h)
          ∙ sym (append_assoc (decimal v) (b ∷ []) (drop (k + 1) t))
          ∙ ap (λ (l : List ℕ). l ++ drop (k + 1) t) (sym d);
      size = omega (arith, s.size, simp length-append at (ap length d));
    }

-- v was neither 0 nor too large
pub open_low : (v m : ℕ) → (eqb v 0 || ltb m v) ≡ false → 0 < v
open_low v m e = by (eqb v 0) refl e
  where
    by : (x : Bool) → eqb v 0 ≡ x → (x || ltb m v) ≡ false → 0 < v
    by true p q = let z : ◌≡◌ {A = ℕ} 0 1 = cc in absurd (omega arith)
    by false p q = omega (arith, eqb-false v 0 p)

pub open_high : (v m : ℕ) → (eqb v 0 || ltb m v) ≡ false → v ≤ m
open_high v m e = by (eqb v 0) refl e
  where
    by : (x : Bool) → eqb v 0 ≡ x → (x || ltb m v) ≡ false → v ≤ m
    by true p q = let z : ◌≡◌ {A = ℕ} 0 1 = cc in absurd (omega arith)
    by false p q = ltb-false m v q

-- no further digit
pub read_over : (t : List ℕ) (at lo hi k v : ℕ) → Begun t at k v → k < length t → other (get_or t k 0) ≡ true → (leb lo v && leb v hi) ≡ true
    → Read t at lo hi k v
read_over t at lo hi k v s h e w =
    record {
      begun = s;
      low = leb-true lo v (and_left (leb lo v) (leb v hi) w);
      high = leb-true v hi (and_right (leb lo v) (leb v hi) w);
      follows = h;
      over = other_none (get_or t k 0) e;
    }
