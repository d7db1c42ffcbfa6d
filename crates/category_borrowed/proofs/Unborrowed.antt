-- A file without kind 1: the check as it is now answers as document 01's did, and a valid one is converted to itself. Assumes nothing.
use mathlib.Core.Path.{◌≡◌, refl, sym, ap, ap₂, ◌∙◌}
use mathlib.Core.Bool.{Bool, true, false, not, cond, ◌&&◌, and-false, true≢false}
use mathlib.Core.List.{List, ◌++◌}
use Prim.Native.Nat.{ℕ, zero, suc, ◌*◌, ◌≤◌, ◌<◌}
use native.Mathlib.Nat.{suc-mul}
use native.Mathlib.Omega.{arith}
use lib.ListN.{length, take, drop}
use lib.Seq.{take-add, take-length}
use lib.Dec.{eqb}
use borrow.Author.Tests.{eqb-true}
use Rattle.tables.specs.Faults.{Fault}
use Rattle.tables.proofs.Scans.{scan_ext}
use Rattle.tables.specs.Lists.{laid}
use Rattle.tables.specs.Below.{count_below}
use Rattle.tables.proofs.Below.{count_rest}
use Rattle.tables.proofs.Tests.{if_false, failed}
use Rattle.category.specs.Records.{count, kind_at, spare_zero}
use Rattle.category.specs.Faults.{ascends, own_good, record_bad, file_fault, faultless}
use Rattle.category.proofs.Faultless.{kind_zero}
use Rattle.category_borrowed.specs.Files.{borrows, borrow_good, kind_good, faulty_at, fault_of, valid}
use Rattle.category_borrowed.specs.Converted.{converted_record, converted, rewritten}
use Rattle.category_borrowed.specs.Theorem.{NoneBorrows}
use Rattle.category_borrowed.proofs.Valid.{valid_length}

-- the tests of a record's kind
kind_tests : (p k o b g : Bool) → b ≡ false → (p && k && o) ≡ (p && cond k o (cond b g false))
kind_tests true true o b g e = refl
kind_tests true false o b g e = sym (if_false b g false e)
kind_tests false k o b g e = refl

module _ (file : List ℕ) (n : NoneBorrows file) where
  -- ---- the check

  record-bad : (i : ℕ) → i < count file → record_bad file i ≡ faulty_at file i
  unfolding record_bad faulty_at kind_good
  record-bad i l =
      ap not (kind_tests (ascends file i && spare_zero file i) (eqb (kind_at file i) 0) (own_good file i) (borrows file i) (borrow_good file i) (n i l))

  pub same_fault : file_fault file ≡ fault_of file
  unfolding file_fault fault_of
  same_fault = scan_ext 9 10 32 0 2000 (record_bad file) (faulty_at file) (length file) record-bad

  pub same_valid : faultless file ≡ valid file
  unfolding faultless valid
  same_valid = ap (λ (f : Fault). eqb f.number 0) same_fault

  -- ---- the conversion

  same_record : (i : ℕ) → i < count file → converted_record file i ≡ take 32 (drop (i * 32) file)
  unfolding converted_record
  same_record i l = if_false _ _ _ (n i l)

  same_to : (k : ℕ) → k ≤ count file → laid (converted_record file) k ≡ take (k * 32) file
  unfolding laid
  same_to zero h = refl
  same_to (suc k) h =
      ap₂ ◌++◌ (same_to k (omega arith)) (same_record k h)
      ∙ sym (take-add (k * 32) 32 file)
      ∙ ap (λ (x : ℕ). take x file) (sym (suc-mul k 32))

  pub same_file : valid file ≡ true → converted file ≡ file
  unfolding converted
  same_file v = same_to (count file) (omega arith) ∙ ap (λ (x : ℕ). take x file) (sym (valid_length file v)) ∙ take-length file

  pub none_rewritten : rewritten file ≡ 0
  unfolding rewritten count_below
  none_rewritten = count_rest (borrows file) 0 (count file) (omega arith) (λ i p l. n i l)

-- a file that is faultless now has no kind 1
pub faultless_none : (file : List ℕ) → faultless file ≡ true → NoneBorrows file
unfolding borrows
faultless_none file g i l = ap (λ (k : ℕ). eqb k 1) (kind_zero file g i l)

-- and one with kind 1 is not faultless
pub borrower_bad : (file : List ℕ) (i : ℕ) → borrows file i ≡ true → record_bad file i ≡ true
unfolding borrows record_bad
borrower_bad file i e = rw (kind_not, and-false (ascends file i && spare_zero file i))
  where
    kind_not : eqb (kind_at file i) 0 ≡ false
    kind_not = ap (λ (k : ℕ). eqb k 0) (eqb-true (kind_at file i) 1 e)

pub borrower_faulty : (file : List ℕ) (i : ℕ) → i < count file → borrows file i ≡ true → faultless file ≡ false
borrower_faulty file i l e = failed (faultless file) λ g. true≢false (sym e ∙ faultless_none file g i l)
