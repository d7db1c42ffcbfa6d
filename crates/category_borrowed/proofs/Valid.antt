-- A file that is valid under document 01: its length, its records by their kind, and the records that texts come from. Assumes nothing.
use mathlib.Core.Path.{◌≡◌, refl, sym, ◌∙◌, subst}
use mathlib.Core.Bool.{Bool, true, false, cond, ◌&&◌, false≢true}
use mathlib.Core.Logic.{◌⊎◌, inl, inr, ⊎_elim}
use mathlib.Core.List.{List}
use Prim.Native.Nat.{ℕ, ◌*◌, ◌%◌, ◌<◌}
use native.Mathlib.Omega.{arith}
use lib.ListN.{length}
use lib.Dec.{eqb, leb}
use borrow.Author.Tests.{ltb-true, eqb-true, eq-eqb, not-false}
use Rattle.tables.specs.Lists.{first}
use Rattle.tables.specs.Below.{some_below}
use Rattle.tables.specs.Sizes.{sized}
use Rattle.tables.proofs.Entries.{at_first}
use Rattle.tables.proofs.Scans.{scan_passed}
use Rattle.tables.proofs.Tests.{and_left, and_right, if_true, if_false}
use Rattle.category.specs.Records.{count, kind_at, lender_at, spare_zero, has_action}
use Rattle.category.specs.Faults.{ascends, text_is, own_good}
use Rattle.category.proofs.Ascent.{Rising, rising}
use Rattle.category_borrowed.specs.Files.{borrows, lends_at, lends, borrow_good, kind_good, faulty_at, fault_of, valid}
use Rattle.category_borrowed.specs.Lookup.{lender_for, source_at}

-- a good kind is 0 or 1
kinds : (k : ℕ) (x y : Bool) → cond (eqb k 0) x (cond (eqb k 1) y false) ≡ true → ((k ≡ 0) × (x ≡ true)) ⊎ ((k ≡ 1) × (y ≡ true))
kinds k x y e = by (eqb k 0) (eqb k 1) refl refl e
  where
    by : (a b : Bool) → eqb k 0 ≡ a → eqb k 1 ≡ b → cond a x (cond b y false) ≡ true → ((k ≡ 0) × (x ≡ true)) ⊎ ((k ≡ 1) × (y ≡ true))
    by true b p q e = inl (eqb-true k 0 p, e)
    by false true p q e = inr (eqb-true k 1 q, e)
    by false false p q e = absurd (false≢true e)

-- the record that record i takes its text from
module _ (file : List ℕ) (i : ℕ) where
  pub source_own : borrows file i ≡ false → source_at file i ≡ i
  unfolding source_at
  source_own b = if_false (borrows file i) _ i b

  pub source_lender : borrows file i ≡ true → source_at file i ≡ lender_for file (lender_at file i)
  unfolding source_at
  source_lender b = if_true (borrows file i) _ i b

module _ (file : List ℕ) (v : valid file ≡ true) where
  -- ---- its length and each record

  passes : (sized 32 0 2000 (length file) ≡ true) × ((k : ℕ) → k < count file → faulty_at file k ≡ false)
  unfolding valid fault_of
  passes = scan_passed 9 10 32 0 2000 (faulty_at file) (length file) (λ q. omega arith) (λ q. omega arith) (eqb-true _ 0 v)

  pub valid_sized : sized 32 0 2000 (length file) ≡ true
  valid_sized = passes.0

  pub valid_length : length file ≡ count file * 32
  unfolding sized
  valid_length =
      let e : length file % 32 ≡ 0 =
      eqb-true (length file % 32) 0
      (and_left _ (leb 0 (count file)) (and_left (eqb (length file % 32) 0 && leb 0 (count file)) (leb (count file) 2000) valid_sized)) in
      omega arith

  valid_record : (k : ℕ) → k < count file → faulty_at file k ≡ false
  valid_record = passes.1

  good : (i : ℕ) → i < count file → (ascends file i && spare_zero file i && kind_good file i) ≡ true
  unfolding faulty_at
  good i l = not-false _ (valid_record i l)

  pub valid_ascends : (k : ℕ) → k < count file → ascends file k ≡ true
  valid_ascends k l = and_left _ (spare_zero file k) (and_left _ (kind_good file k) (good k l))

  pub valid_rising : Rising file (count file)
  valid_rising = rising file (count file) valid_ascends

  pub valid_spare : (k : ℕ) → k < count file → spare_zero file k ≡ true
  valid_spare k l = and_right (ascends file k) _ (and_left _ (kind_good file k) (good k l))

  -- ---- by its kind

  by_kind : (i : ℕ) → i < count file → ((kind_at file i ≡ 0) × (own_good file i ≡ true)) ⊎ ((kind_at file i ≡ 1) × (borrow_good file i ≡ true))
  unfolding kind_good borrows
  by_kind i l = kinds (kind_at file i) (own_good file i) (borrow_good file i) (and_right (ascends file i && spare_zero file i) _ (good i l))

  pub own_kind : (i : ℕ) → i < count file → borrows file i ≡ false → kind_at file i ≡ 0
  unfolding borrows
  own_kind i l e = ⊎_elim (λ p. p.0) (λ p. absurd (false≢true (sym e ∙ eq-eqb (kind_at file i) 1 p.0))) (by_kind i l)

  pub own-good : (i : ℕ) → i < count file → kind_at file i ≡ 0 → own_good file i ≡ true
  own-good i l k = ⊎_elim (λ p. p.1) (λ p. absurd (omega (arith, p.0))) (by_kind i l)

  borrower_lends : (i : ℕ) → i < count file → borrows file i ≡ true → lends file (lender_at file i) ≡ true
  unfolding borrows borrow_good
  borrower_lends i l b =
      ⊎_elim (λ p. absurd (omega (arith, p.0, eqb-true (kind_at file i) 1 b))) (λ p. and_right (text_is file i 0) _ p.1) (by_kind i l)

  -- ---- texts come from records of kind 0

  lender_good : (a : ℕ) → lends file a ≡ true → (lender_for file a < count file) × (kind_at file (lender_for file a) ≡ 0)
  unfolding lender_for lends some_below lends_at
  lender_good a e =
      let r : ℕ = first (lends_at file a) (count file) in
      let l : r < count file = ltb-true r (count file) e in
      (l, eqb-true (kind_at file r) 0 (and_right (has_action file a r) _ (at_first (lends_at file a) (count file) l)))

  source_good : (i : ℕ) → i < count file → (source_at file i < count file) × (kind_at file (source_at file i) ≡ 0)
  source_good i l = by (borrows file i) refl
    where
      Good : ℕ → Type 0
      Good s = (s < count file) × (kind_at file s ≡ 0)

      by : (b : Bool) → borrows file i ≡ b → Good (source_at file i)
      by true b = subst Good (sym (source_lender file i b)) (lender_good (lender_at file i) (borrower_lends i l b))
      by false b = subst Good (sym (source_own file i b)) (l, own_kind i l b)

  pub source_inside : (i : ℕ) → i < count file → source_at file i < count file
  source_inside i l = (source_good i l).0

  pub source_kind : (i : ℕ) → i < count file → kind_at file (source_at file i) ≡ 0
  source_kind i l = (source_good i l).1
