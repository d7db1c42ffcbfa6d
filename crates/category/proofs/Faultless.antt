-- One faultless file: each action has one record, and its text is not empty. Assumes nothing.
use mathlib.Core.Path.{◌≡◌, refl, sym, ap, ap₂, subst}
use mathlib.Core.Bool.{Bool, true, false, ◌&&◌}
use mathlib.Core.List.{List}
use Prim.Native.Nat.{ℕ, ◌<◌}
use lib.ListN.{length, take, drop}
use lib.Dec.{eqb, leb, ltb}
use borrow.Author.Tests.{ltb-true, lt-ltb, leb-true, eqb-true, eq-eqb, not-false}
use Rattle.tables.specs.Lists.{first}
use Rattle.tables.specs.Below.{some_below}
use Rattle.tables.proofs.Below.{some_is}
use Rattle.tables.proofs.Tests.{and_left, and_right}
use Rattle.category.specs.Records.{count, action_at, kind_at, lender_at, text_length, spare_zero, has_action}
use Rattle.category.specs.Faults.{ascends, text_is, text_good, own_good, record_bad, faultless}
use Rattle.category.specs.Labels.{own_text, has, record_of, text_size, text_of}
use Rattle.category.proofs.Ascent.{Rising, rising}
use Rattle.category.proofs.Search.{record_is, record_first}
use Rattle.category.proofs.Sources.{offset_in, size_in, length_text, lacks}
use Rattle.category.proofs.Answers.{faultless_record}

-- the text of an action is that of the record that it comes from
text-of : (file : List ℕ) (a i : ℕ) → i ≡ record_of file a → i < count file → text_of file a ≡ own_text file i
unfolding text_of own_text
text-of file a i e l = sym (ap₂ (λ (s o : ℕ). take s (drop o file)) (size_in file a i e l) (offset_in file a i e l))

module _ (file : List ℕ) (g : faultless file ≡ true) where
  good : (i : ℕ) → i < count file → (ascends file i && spare_zero file i && eqb (kind_at file i) 0 && own_good file i) ≡ true
  unfolding record_bad
  good i l = not-false _ (faultless_record file g i l)

  pub rises : Rising file (count file)
  rises = rising file (count file) λ k l. and_left _ (spare_zero file k) (and_left _ (eqb (kind_at file k) 0) (and_left _ (own_good file k) (good k l)))

  pub kind_zero : (i : ℕ) → i < count file → kind_at file i ≡ 0
  kind_zero i l = eqb-true (kind_at file i) 0 (and_right (ascends file i && spare_zero file i) _ (and_left _ (own_good file i) (good i l)))

  pub has_own : (i : ℕ) → i < count file → has file (action_at file i) ≡ true
  unfolding has has_action
  has_own i l = some_is (has_action file (action_at file i)) (count file) i l (eq-eqb (action_at file i) (action_at file i) refl)

  pub text_own : (i : ℕ) → i < count file → text_of file (action_at file i) ≡ own_text file i
  text_own i l = text-of file (action_at file i) i (record_is rises i l) l

  -- a text is not empty
  own_some : (i : ℕ) → i < count file → 0 < text_length file i
  unfolding own_good text_good
  own_some i l =
      leb-true 1 (text_length file i)
      (and_left (leb 1 (text_length file i)) (text_is file i (text_length file i))
      (and_right (eqb (lender_at file i) 0) (text_good file i)
      (and_right (ascends file i && spare_zero file i && eqb (kind_at file i) 0) (own_good file i) (good i l))))

  size_some : (a : ℕ) → has file a ≡ true → 0 < text_size file a
  unfolding has some_below
  size_some a h = subst (λ (n : ℕ). 0 < n) (size_in file a (record_of file a) refl inside) (own_some (record_of file a) inside)
    where
      inside : record_of file a < count file
      inside = subst (λ (x : ℕ). x < count file) (sym (record_first rises a)) (ltb-true (first (has_action file a) (count file)) (count file) h)

  pub text_some : (a : ℕ) → has file a ≡ true → 0 < length (text_of file a)
  text_some a h = subst (λ (n : ℕ). 0 < n) (sym (length_text file a)) (size_some a h)

  -- only an action without a record has an empty text
  pub has_size : (a : ℕ) → has file a ≡ ltb 0 (text_size file a)
  has_size a = by (has file a) refl
    where
      by : (b : Bool) → has file a ≡ b → b ≡ ltb 0 (text_size file a)
      by true e = sym (lt-ltb 0 (text_size file a) (size_some a e))
      by false e = ap (ltb 0) (lacks file a e)

  -- an action has a record where the search answers one
  pub has_record : (a : ℕ) → has file a ≡ ltb (record_of file a) (count file)
  unfolding has some_below
  has_record a = ap (λ (x : ℕ). ltb x (count file)) (sym (record_first rises a))
