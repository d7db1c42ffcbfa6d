-- What the loader of two faultless category files relies on. Assumes nothing.
use Rattle.std.specs.Prelude.{ℕ, ◌<◌, ◌≡◌, true, false, ◌⊎◌, List, length}
use Rattle.category.specs.Records.{count, action_at}
use Rattle.category.specs.Labels.{own_text, has, text_of, label_of}

-- the labels from two faultless files: `labels_of` of proofs/Loader.antt shows that they are so
pub record LabelsOf (translation house : List ℕ) : Type 0 where
  -- an action that the translation has gets the translation's text, whatever the house file says
  pub translated : (a : ℕ) → has translation a ≡ true → label_of translation house a ≡ text_of translation a
  -- one that the translation lacks gets the house file's
  pub untranslated : (a : ℕ) → has translation a ≡ false → label_of translation house a ≡ text_of house a
  -- a label is never empty for an action that has a record in either file
  pub labelled : (a : ℕ) → (has translation a ≡ true) ⊎ (has house a ≡ true) → 0 < length (label_of translation house a)
  -- the label of an action is exactly the text of its record, in the translation and in the house file
  pub own_translated : (i : ℕ) → i < count translation → label_of translation house (action_at translation i) ≡ own_text translation i
  pub own_untranslated : (i : ℕ) → i < count house → has translation (action_at house i) ≡ false
      → label_of translation house (action_at house i) ≡ own_text house i
