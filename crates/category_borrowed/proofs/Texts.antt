-- The lookup as it is now finds in the converted file of a valid one what document 01's lookup found in the file. Assumes nothing.
use mathlib.Core.Path.{◌≡◌, sym, ap, ap₂, ◌∙◌, subst}
use mathlib.Core.Bool.{true, false}
use mathlib.Core.Logic.{⊎_elim}
use mathlib.Core.List.{List, []}
use Prim.Native.Nat.{ℕ, ◌<◌}
use native.Mathlib.Omega.{arith}
use lib.ListN.{take, drop}
use lib.Dec.{eqb, ltb}
use borrow.Author.Tests.{lt-ltb, le-ltb, ltb-true, eqb-true}
use Rattle.tables.specs.Lists.{first}
use Rattle.tables.specs.Below.{some_below}
use Rattle.tables.proofs.Entries.{first_ext, at_first}
use Rattle.tables.proofs.Tests.{passed, if_true}
use Rattle.category.specs.Records.{count, action_at, has_action}
use Rattle.category.specs.Labels.{own_text, has, text_offset, text_of}
use Rattle.category.proofs.Sources.{lacks}
use Rattle.category.proofs.Faultless.{text_own}
use Rattle.category_borrowed.specs.Files.{valid}
use Rattle.category_borrowed.specs.Lookup.{source_at, source_for, text_for}
use Rattle.category_borrowed.specs.Converted.{converted}
use Rattle.category_borrowed.proofs.Valid.{source_inside}
use Rattle.category_borrowed.proofs.Same.{own_text_same}
use Rattle.category_borrowed.proofs.Bytes.{text_bytes}
use Rattle.category_borrowed.proofs.Reading.{count_converted, action_converted, faultless_converted}

-- document 01's text, by the record that it comes from
module _ (file : List ℕ) (a : ℕ) where
  text_at : (s : ℕ) → source_for file a ≡ s → s < count file → text_for file a ≡ own_text file s
  unfolding text_for
  text_at s e l = rw (e, lt-ltb s (count file) l)

  text_none : has file a ≡ false → text_for file a ≡ []
  unfolding text_for source_for
  text_none e = rw (e, le-ltb (count file) (count file) (omega arith))

-- an action without a record has no text
text_lacks : (file : List ℕ) (a : ℕ) → has file a ≡ false → text_of file a ≡ []
unfolding text_of
text_lacks file a e = sym (ap (λ (n : ℕ). take n (drop (text_offset file a) file)) (lacks file a e))

module _ (file : List ℕ) (v : valid file ≡ true) (a : ℕ) where
  first_converted : first (has_action (converted file) a) (count (converted file)) ≡ first (has_action file a) (count file)
  unfolding has_action
  first_converted =
      ap (first (has_action (converted file) a)) (count_converted file v)
      ∙ first_ext (has_action (converted file) a) (has_action file a) (count file) (λ k l. ap (λ (x : ℕ). eqb x a) (action_converted file v k l))

  pub has_converted : has (converted file) a ≡ has file a
  unfolding has some_below
  has_converted = ap₂ ltb first_converted (count_converted file v)

  found : has file a ≡ true → text_of (converted file) a ≡ text_for file a
  unfolding has some_below has_action source_for
  found h =
      subst (λ (x : ℕ). text_of (converted file) x ≡ own_text (converted file) i) action (text_own (converted file) (faultless_converted file v) i inside)
      ∙ own_text_same (text_bytes file v i l) inside (source_inside file v i l)
      ∙ sym (text_at file a (source_at file i) (if_true _ _ _ h) (source_inside file v i l))
    where
      i : ℕ
      i = first (has_action file a) (count file)

      l : i < count file
      l = ltb-true i (count file) h

      inside : i < count (converted file)
      inside = subst (λ (n : ℕ). i < n) (sym (count_converted file v)) l

      action : action_at (converted file) i ≡ a
      action = action_converted file v i l ∙ eqb-true (action_at file i) a (at_first (has_action file a) (count file) l)

  pub text_converted : text_of (converted file) a ≡ text_for file a
  text_converted = ⊎_elim found (λ e. text_lacks (converted file) a (has_converted ∙ e) ∙ sym (text_none file a e)) (passed (has file a))
