-- The place of a label holds the label, and so does the part of a file that is cut out there. Assumes nothing.
use mathlib.Core.Path.{◌≡◌, refl, sym, ap, ◌∙◌}
use mathlib.Core.Bool.{Bool, true, false, cond, ◌&&◌}
use mathlib.Core.List.{List, []}
use Prim.Native.Nat.{ℕ, ◌+◌, ◌<◌}
use native.Mathlib.Omega.{arith}
use native.Mathlib.Nat.{zero-add}
use lib.ListN.{take, drop}
use borrow.Author.Tests.{lt-ltb, le-ltb}
use Rattle.category.specs.Faults.{faultless}
use Rattle.category.specs.Records.{count}
use Rattle.category.specs.Labels.{has, record_of, text_offset, text_of, label_of, place_in, nowhere, place_of, file_of, bytes_at}
use Rattle.category.specs.declared.LabelPlace.{LabelPlace}
use Rattle.category.proofs.Sources.{lacks}
use Rattle.category.proofs.Answers.{first_good, second_good}
use Rattle.category.proofs.Faultless.{has_record}

module _ (translation house : List ℕ) (a : ℕ) where
  place_label : bytes_at translation house (place_of translation house a) ≡ label_of translation house a
  unfolding place_of place_in nowhere file_of bytes_at label_of text_of
  place_label = by (faultless translation && faultless house) (has translation a) (has house a) refl
    where
      by : (g u v : Bool) → has house a ≡ v
          → bytes_at translation house (cond g (cond u (place_in 0 translation a) (cond v (place_in 1 house a) nowhere)) nowhere)
          ≡ cond g (cond u (text_of translation a) (text_of house a)) []
      by true true v e = refl
      by true false true e = refl
      by true false false e = sym (ap (λ (s : ℕ). take s (drop (text_offset house a) house)) (sym (lacks house a e)))
      by false u v e = refl

  -- what `place` ensures
  pub placed : (p : LabelPlace) → p ≡ place_of translation house a
      → (p ≡ place_of translation house a) × (bytes_at translation house p ≡ label_of translation house a)
  placed p e = (e, ap (bytes_at translation house) e ∙ place_label)

  -- the place, by the records that the two searches answer
  pub placed_faulty : (faultless translation && faultless house) ≡ false → nowhere ≡ place_of translation house a
  unfolding place_of
  placed_faulty g = rw g

  module _ (g : (faultless translation && faultless house) ≡ true) where
    pub placed_first : record_of translation a < count translation → place_in 0 translation a ≡ place_of translation house a
    unfolding place_of
    placed_first l = rw (g, has_record translation (first_good translation house g) a, lt-ltb (record_of translation a) (count translation) l)

    module _ (n : record_of translation a ≡ count translation) where
      lacking : has translation a ≡ false
      lacking = has_record translation (first_good translation house g) a ∙ le-ltb (record_of translation a) (count translation) (omega arith)

      pub placed-second : record_of house a < count house → place_in 1 house a ≡ place_of translation house a
      unfolding place_of
      placed-second l = rw (g, lacking, has_record house (second_good translation house g) a, lt-ltb (record_of house a) (count house) l)

      pub placed-neither : record_of house a ≡ count house → nowhere ≡ place_of translation house a
      unfolding place_of
      placed-neither e = rw (g, lacking, has_record house (second_good translation house g) a ∙ le-ltb (record_of house a) (count house) (omega arith))

  -- what `label` ensures of the bytes l that stand at x, y, where the files stand at tx, ty and hx, hy
  module _ {A : Type 0} (tx hx : A) (ty hy : ℕ) where
    abbrev Told : List ℕ → A → ℕ → Type 0
    Told l x y =
        (l ≡ label_of translation house a)
        × ((x ≡ file_of (place_of translation house a).file tx hx)
        × (y ≡ (place_of translation house a).offset + file_of (place_of translation house a).file ty hy))

    told : (p : LabelPlace) → p ≡ place_of translation house a → (l : List ℕ) (x : A) (y : ℕ) → l ≡ bytes_at translation house p
        → x ≡ file_of p.file tx hx → y ≡ p.offset + file_of p.file ty hy → Told l x y
    told p e l x y b u v = (
      b ∙ (placed p e).1,
      (u ∙ ap (λ (q : LabelPlace). file_of q.file tx hx) e, v ∙ ap (λ (q : LabelPlace). q.offset + file_of q.file ty hy) e),
    )

    pub label_first : place_in 0 translation a ≡ place_of translation house a → (l : List ℕ) (x : A) (y : ℕ) → l ≡ text_of translation a
        → (x ≡ tx) × (y ≡ text_offset translation a + ty) → Told l x y
    unfolding bytes_at place_in file_of text_of
    label_first e l x y b p = told (place_in 0 translation a) e l x y b p.0 p.1

    pub label_second : place_in 1 house a ≡ place_of translation house a → (l : List ℕ) (x : A) (y : ℕ) → l ≡ text_of house a
        → (x ≡ hx) × (y ≡ text_offset house a + hy) → Told l x y
    unfolding bytes_at place_in file_of text_of
    label_second e l x y b p = told (place_in 1 house a) e l x y b p.0 p.1

    pub label_none : nowhere ≡ place_of translation house a → Told [] tx ty
    unfolding bytes_at nowhere file_of
    label_none e = told nowhere e [] tx ty refl refl (sym (zero-add ty))
