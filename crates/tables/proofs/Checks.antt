-- The check of a table, record by record: what each way through the code has found is its answer, and its fault. For any record size and any test.
-- Assumes nothing.
use mathlib.Core.Path.{◌≡◌, refl, sym, ap, ◌∙◌}
use mathlib.Core.Bool.{Bool, true, false, cond}
use Prim.Native.Nat.{ℕ, ◌/◌, ◌<◌}
use native.Mathlib.Nat.{le_of_eq, lt_of_lt_of_le}
use native.Mathlib.Omega.{arith}
use Rattle.std.proofs.Common.{Ok, Err}
use lib.Dec.{ltb}
use borrow.Author.Tests.{lt-ltb, le-ltb}
use Rattle.tables.specs.declared.TableFault.TheVariants.{Size, Record}
use Rattle.tables.specs.Lists.{first}
use Rattle.tables.specs.Sizes.{sized}
use Rattle.tables.specs.Faults.{no_fault, fault, scan_fault}
use Rattle.tables.specs.Checks.{checked, told, answered}
use Rattle.tables.proofs.Entries.{first_is, first_none}
use Rattle.tables.proofs.Tests.{if_true, if_false}

module _ (size least most : ℕ) (bad : ℕ → Bool) (len : ℕ) where
  pub checked_size : sized size least most len ≡ false → Err Size ≡ checked size least most bad len
  unfolding checked
  checked_size h = sym (if_false _ _ _ h)

  pub checked_record : sized size least most len ≡ true → (r : ℕ) → r < len / size → bad r ≡ true → ((k : ℕ) → k < r → bad k ≡ false)
      → Err (Record r) ≡ checked size least most bad len
  unfolding checked
  checked_record h r l p q =
      let e : first bad (len / size) ≡ r = first_is bad (len / size) r l q p in
      sym
      (if_true _ _ _ h
      ∙ if_true _ _ _ (ap (λ (k : ℕ). ltb k (len / size)) e ∙ lt-ltb r (len / size) l)
      ∙ ap (λ (k : ℕ). Err (Record k)) e)

  pub checked_good : sized size least most len ≡ true → (n : ℕ) → n ≡ len / size → ((k : ℕ) → k < n → bad k ≡ false)
      → Ok n ≡ checked size least most bad len
  unfolding checked
  checked_good h n e q =
      let f : first bad (len / size) ≡ len / size = first_none bad (len / size) (λ k l. q k (lt_of_lt_of_le l (le_of_eq (sym e)))) in
      ap (λ (k : ℕ). Ok k) e
      ∙ sym (if_true _ _ _ h ∙ if_false _ _ _ (le-ltb (first bad (len / size)) (len / size) (le_of_eq (sym f))))

  -- the fault that it answers
  pub checked_fault : (sn rn : ℕ) → answered sn rn (checked size least most bad len) ≡ scan_fault sn rn size least most bad len
  unfolding checked answered told scan_fault
  checked_fault sn rn = by (sized size least most len) (ltb (first bad (len / size)) (len / size)) (first bad (len / size))
    where
      by : (s b : Bool) (k : ℕ)
          → answered sn rn (cond s (cond b (Err (Record k)) (Ok (len / size))) (Err Size)) ≡ cond s (cond b (fault rn k) no_fault) (fault sn 0)
      by true true k = refl
      by true false k = refl
      by false b k = refl

  -- where it is passed, the length is right, and so many records are there
  pub checked_sized : (n : ℕ) → Ok n ≡ checked size least most bad len → (sized size least most len ≡ true) × (n ≡ len / size)
  unfolding checked
  checked_sized n = by (sized size least most len) (ltb (first bad (len / size)) (len / size)) (first bad (len / size))
    where
      by : (s b : Bool) (k : ℕ) → Ok n ≡ cond s (cond b (Err (Record k)) (Ok (len / size))) (Err Size) → (s ≡ true) × (n ≡ len / size)
      by true true k e = absurd (let z : ◌≡◌ {A = ℕ} 0 1 = cc in omega arith)
      by true false k e = (refl, cc)
      by false b k e = absurd (let z : ◌≡◌ {A = ℕ} 0 1 = cc in omega arith)
