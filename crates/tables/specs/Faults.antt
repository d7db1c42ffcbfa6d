-- Faults of the input by document 01's numbers, and the check of a table record by record. Assumes nothing.
use Rattle.std.specs.Prelude.{ℕ, ◌/◌, Bool, cond, eqb, ltb}
use Rattle.tables.specs.Lists.{first}
use Rattle.tables.specs.Sizes.{sized}

-- a refusal's number, 0 for none, and the record
pub record Fault : Type 0 where
  pub number : ℕ
  pub place : ℕ

abbrev pub no_fault : Fault
no_fault = record { number = 0; place = 0 }

abbrev pub fault : ℕ → ℕ → Fault
fault n r = record { number = n; place = r }

-- the first fault, or else the second
abbrev pub or_else : Fault → Fault → Fault
or_else a b = cond (eqb a.number 0) b a

-- the fault of a table of len bytes: its size, by one number, where the bytes are not `least` to `most` records of `size` bytes; else the
-- lowest record that is bad, by another
unfoldable pub scan_fault : (sizeNumber recordNumber size least most : ℕ) (bad : ℕ → Bool) (len : ℕ) → Fault
scan_fault sn rn size least most bad len =
    cond (sized size least most len)
    (cond (ltb (first bad (len / size)) (len / size)) (fault rn (first bad (len / size))) no_fault)
    (fault sn 0)
