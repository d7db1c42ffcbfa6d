-- The check of a table, record by record: what each way through the code has found fixes the fault. For any record size and any test. Then one
-- check after another. Assumes nothing.
use mathlib.Core.Path.{◌≡◌, refl, sym, ap, ◌∙◌}
use mathlib.Core.Bool.{Bool, true, false, cond}
use Prim.Native.Nat.{ℕ, ◌*◌, ◌/◌, ◌≤◌, ◌<◌}
use native.Mathlib.Nat.{le_trans, le_of_eq, div-mul-le_self}
use lib.Dec.{eqb, ltb}
use borrow.Author.Tests.{lt-ltb, le-ltb, ltb-false, eqb-true, eqb-false}
use Rattle.std.proofs.Common.{Some, None}
use Rattle.tables.specs.Lists.{first}
use Rattle.tables.specs.Sizes.{sized, records_of}
use Rattle.tables.specs.Faults.{Fault, no_fault, fault, or_else, scan_fault}
use Rattle.tables.proofs.Counts.{whole_sized, whole_count, refused_sized}
use Rattle.tables.proofs.Entries.{first_ext, first_none, before_first}
use Rattle.tables.proofs.Tests.{if_true, if_false}

module _ (sn rn size least most : ℕ) (bad : ℕ → Bool) (len : ℕ) where
  pub scan_size : records_of size least most len ≡ None → fault sn 0 ≡ scan_fault sn rn size least most bad len
  unfolding scan_fault
  scan_size e =
      sym
      (ap (λ b. cond b (cond (ltb (first bad (len / size)) (len / size)) (fault rn (first bad (len / size))) no_fault) (fault sn 0))
      (refused_sized size least most len e))

  sized_scan : (n : ℕ) → records_of size least most len ≡ Some n
      → scan_fault sn rn size least most bad len ≡ cond (ltb (first bad n) n) (fault rn (first bad n)) no_fault
  unfolding scan_fault
  sized_scan n e =
      ap (λ b. cond b (cond (ltb (first bad (len / size)) (len / size)) (fault rn (first bad (len / size))) no_fault) (fault sn 0))
      (whole_sized size least most len n e)
      ∙ ap (λ (k : ℕ). cond (ltb (first bad k) k) (fault rn (first bad k)) no_fault) (sym (whole_count size least most len n e))

  pub scan_record : (n b : ℕ) → records_of size least most len ≡ Some n → b ≡ first bad n → b < n
      → fault rn b ≡ scan_fault sn rn size least most bad len
  scan_record n b e p h =
      ap (fault rn) p
      ∙ sym (sized_scan n e ∙ ap (λ t. cond t (fault rn (first bad n)) no_fault) (ap (λ (k : ℕ). ltb k n) (sym p) ∙ lt-ltb b n h))

  pub scan_good : (n b : ℕ) → records_of size least most len ≡ Some n → b ≡ first bad n → n ≤ b
      → no_fault ≡ scan_fault sn rn size least most bad len
  scan_good n b e p h =
      sym (sized_scan n e ∙ ap (λ t. cond t (fault rn (first bad n)) no_fault) (ap (λ (k : ℕ). ltb k n) (sym p) ∙ le-ltb b n h))

  pub records_inside : (n : ℕ) → records_of size least most len ≡ Some n → n * size ≤ len
  records_inside n e = le_trans (le_of_eq (ap (λ (k : ℕ). k * size) (whole_count size least most len n e))) (div-mul-le_self len size)

  -- a table with no fault has its size, and no record of it is bad
  passes : (s f : Bool) (k : ℕ) → (◌≡◌ {A = ℕ} sn 0 → ⊥) → (◌≡◌ {A = ℕ} rn 0 → ⊥) → (cond s (cond f (fault rn k) no_fault) (fault sn 0)).number ≡ 0
      → (s ≡ true) × (f ≡ false)
  passes true false k p q e = (refl, refl)
  passes true true k p q e = absurd (q e)
  passes false f k p q e = absurd (p e)

  pub scan_passed : (◌≡◌ {A = ℕ} sn 0 → ⊥) → (◌≡◌ {A = ℕ} rn 0 → ⊥) → (scan_fault sn rn size least most bad len).number ≡ 0
      → (sized size least most len ≡ true) × ((k : ℕ) → k < len / size → bad k ≡ false)
  unfolding scan_fault
  scan_passed p q e =
      let r : (sized size least most len ≡ true) × (ltb (first bad (len / size)) (len / size) ≡ false) = passes _ _ (first bad (len / size)) p q e in
      (r.0, λ k h. before_first bad (len / size) k (le_trans h (ltb-false (first bad (len / size)) (len / size) r.1)))

  -- and a table of the right size with no bad record has no fault
  pub scan_clear : sized size least most len ≡ true → ((k : ℕ) → k < len / size → bad k ≡ false) → scan_fault sn rn size least most bad len ≡ no_fault
  unfolding scan_fault
  scan_clear s h =
      if_true (sized size least most len) _ _ s
      ∙ if_false _ _ _ (le-ltb (first bad (len / size)) (len / size) (le_of_eq (sym (first_none bad (len / size) h))))

-- tests that agree on the records of a table find the same fault
pub scan_ext : (sn rn size least most : ℕ) (bad worse : ℕ → Bool) (len : ℕ) → ((k : ℕ) → k < len / size → bad k ≡ worse k)
    → scan_fault sn rn size least most bad len ≡ scan_fault sn rn size least most worse len
unfolding scan_fault
scan_ext sn rn size least most bad worse len h =
    ap (λ (b : ℕ). cond (sized size least most len) (cond (ltb b (len / size)) (fault rn b) no_fault) (fault sn 0)) (first_ext bad worse (len / size) h)

-- ---- one check after another

pub or_first : (f g h : Fault) → f ≡ g → eqb f.number 0 ≡ false → f ≡ or_else g h
or_first f g h e z = sym (ap (λ x. or_else x h) (sym e) ∙ if_false _ _ _ z)

pub or_second : (g h x : Fault) → no_fault ≡ g → x ≡ h → x ≡ or_else g h
or_second g h x e q = q ∙ ap (λ y. or_else y h) e

-- neither has a fault
pub both_passed : (f g : Fault) → (or_else f g).number ≡ 0 → (f.number ≡ 0) × (g.number ≡ 0)
both_passed f g e = by (eqb f.number 0) refl e
  where
    by : (b : Bool) → eqb f.number 0 ≡ b → (cond b g f).number ≡ 0 → (f.number ≡ 0) × (g.number ≡ 0)
    by true q e = (eqb-true f.number 0 q, e)
    by false q e = absurd (eqb-false f.number 0 q e)
