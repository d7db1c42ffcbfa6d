-- Two faultless files give the labels that their loader relies on. Assumes nothing.
use mathlib.Core.Path.{◌≡◌, refl, sym, ◌∙◌, subst}
use mathlib.Core.Bool.{Bool, true, false}
use mathlib.Core.Logic.{◌⊎◌, inl, inr}
use mathlib.Core.List.{List}
use Prim.Native.Nat.{ℕ, ◌<◌}
use lib.ListN.{length}
use Rattle.category.specs.Records.{action_at}
use Rattle.category.specs.Faults.{faultless}
use Rattle.category.specs.Labels.{has, text_of, label_of}
use Rattle.category.specs.Loader.{LabelsOf}
use Rattle.category.proofs.Faultless.{has_own, text_own, text_some}

module _ (translation house : List ℕ) (g : faultless translation ≡ true) (h : faultless house ≡ true) where
  from_first : (a : ℕ) → has translation a ≡ true → label_of translation house a ≡ text_of translation a
  unfolding label_of
  from_first a e = rw (g, h, e)

  from_second : (a : ℕ) → has translation a ≡ false → label_of translation house a ≡ text_of house a
  unfolding label_of
  from_second a e = rw (g, h, e)

  never_empty : (a : ℕ) → (has translation a ≡ true) ⊎ (has house a ≡ true) → 0 < length (label_of translation house a)
  never_empty a e = by (has translation a) refl e
    where
      first-text : has translation a ≡ true → 0 < length (label_of translation house a)
      first-text p = subst (λ x. 0 < length x) (sym (from_first a p)) (text_some translation g a p)

      by : (b : Bool) → has translation a ≡ b → (has translation a ≡ true) ⊎ (has house a ≡ true) → 0 < length (label_of translation house a)
      by true p e = first-text p
      by false p (inl q) = first-text q
      by false p (inr q) = subst (λ x. 0 < length x) (sym (from_second a p)) (text_some house h a q)

  pub labels_of : LabelsOf translation house
  labels_of =
      record {
        translated = from_first;
        untranslated = from_second;
        labelled = never_empty;
        own_translated = λ i l. from_first (action_at translation i) (has_own translation g i l) ∙ text_own translation g i l;
        own_untranslated = λ i l e. from_second (action_at house i) e ∙ text_own house h i l;
      }
