-- The answers of the check: of one file, and of both. Assumes nothing.
use mathlib.Core.Path.{◌≡◌, refl, sym, ap, ◌∙◌}
use mathlib.Core.Bool.{Bool, true, false, cond, ◌&&◌}
use mathlib.Core.List.{List}
use Prim.Native.Nat.{ℕ, ◌≤◌, ◌<◌}
use native.Mathlib.Omega.{arith}
use lib.ListN.{length}
use lib.Dec.{eqb}
use borrow.Author.Tests.{eqb-true}
use Rattle.std.proofs.Common.{Result, Ok, Err}
use Rattle.std.specs.Result.{is_ok}
use Rattle.tables.specs.declared.TableFault.{TableFault}
use Rattle.tables.specs.declared.TableFault.TheVariants.{Size, Record}
use Rattle.tables.specs.Sizes.{sized}
use Rattle.tables.specs.Faults.{Fault, fault}
use Rattle.tables.specs.Checks.{told, answered}
use Rattle.tables.proofs.Counts.{sized_most}
use Rattle.tables.proofs.Scans.{scan_passed}
use Rattle.tables.proofs.Tests.{if_true, if_false, and_left, and_right}
use Rattle.category.specs.Records.{count}
use Rattle.category.specs.Faults.{record_bad, file_fault, faultless, check_fault, checked}

-- the numbers of a refusal
pub size_told : (a : Result (Unit {0}) TableFault) (f : TableFault) → a ≡ Err f → f ≡ Size → fault 9 0 ≡ checked a
unfolding checked answered told
size_told a f e p = rw (e, p)

pub record_told : (a : Result (Unit {0}) TableFault) (f : TableFault) (r : ℕ) → a ≡ Err f → f ≡ Record r → fault 10 r ≡ checked a
unfolding checked answered told
record_told a f r e p = rw (e, p)

module _ (file : List ℕ) where
  -- what a faultless file has: at most 2,000 records, none of them faulty
  passes : faultless file ≡ true → (sized 32 0 2000 (length file) ≡ true) × ((k : ℕ) → k < count file → record_bad file k ≡ false)
  unfolding faultless file_fault
  passes e = scan_passed 9 10 32 0 2000 (record_bad file) (length file) (λ q. omega arith) (λ q. omega arith) (eqb-true _ 0 e)

  pub faultless_count : faultless file ≡ true → count file ≤ 2000
  faultless_count e = sized_most 32 0 2000 (length file) (passes e).0

  pub faultless_record : faultless file ≡ true → (k : ℕ) → k < count file → record_bad file k ≡ false
  faultless_record e = (passes e).1

-- an answer passes where its number is 0
passes_by : (o : Result (Unit {0}) TableFault) → is_ok o ≡ eqb (checked o).number 0
unfolding checked answered told
passes_by (Ok u) = refl
passes_by (Err Size) = refl
passes_by (Err (Record r)) = refl

-- both files
module _ (translation house : List ℕ) where
  -- by the answer for the translation: it has a fault, or none
  pub check_first : (f : TableFault) → checked (Err f) ≡ file_fault translation → checked (Err f) ≡ check_fault translation house
  unfolding checked answered told check_fault
  check_first Size e = e ∙ sym (if_false _ (file_fault house) (file_fault translation) (ap (λ (x : Fault). eqb x.number 0) (sym e)))
  check_first (Record r) e = e ∙ sym (if_false _ (file_fault house) (file_fault translation) (ap (λ (x : Fault). eqb x.number 0) (sym e)))

  pub check_second : (u : Unit {0}) → checked (Ok u) ≡ file_fault translation → file_fault house ≡ check_fault translation house
  unfolding checked answered check_fault
  check_second u e = sym (if_true _ (file_fault house) (file_fault translation) (ap (λ (x : Fault). eqb x.number 0) (sym e)))

  -- neither is faulty where the number is 0
  check_good : eqb (check_fault translation house).number 0 ≡ (faultless translation && faultless house)
  unfolding check_fault faultless
  check_good = by (eqb (file_fault translation).number 0) refl
    where
      by : (b : Bool) → eqb (file_fault translation).number 0 ≡ b
          → eqb (cond b (file_fault house) (file_fault translation)).number 0 ≡ (b && eqb (file_fault house).number 0)
      by true e = refl
      by false e = e

  pub both_good : (o : Result (Unit {0}) TableFault) → checked o ≡ check_fault translation house → is_ok o ≡ (faultless translation && faultless house)
  both_good o e = passes_by o ∙ ap (λ (x : Fault). eqb x.number 0) e ∙ check_good

  -- each of them
  pub first_good : (faultless translation && faultless house) ≡ true → faultless translation ≡ true
  first_good e = and_left (faultless translation) (faultless house) e

  pub second_good : (faultless translation && faultless house) ≡ true → faultless house ≡ true
  second_good e = and_right (faultless translation) (faultless house) e
