-- The check of a table, record by record, and a table's fault in numbers. Assumes nothing.
use Rattle.std.specs.Prelude.{ℕ, ◌/◌, Bool, cond, Result, Ok, Err, ltb}
use Rattle.tables.specs.declared.TableFault.{TableFault}
use Rattle.tables.specs.declared.TableFault.TheVariants.{Size, Record}
use Rattle.tables.specs.Lists.{first}
use Rattle.tables.specs.Sizes.{sized}
use Rattle.tables.specs.Faults.{Fault, no_fault, fault}

-- how many records of `size` bytes a table of len bytes has, where these are `least` to `most` whole ones and none is bad; else why it is refused
unfoldable pub checked : (size least most : ℕ) (bad : ℕ → Bool) (len : ℕ) → Result ℕ TableFault
checked size least most bad len =
    cond (sized size least most len)
    (cond (ltb (first bad (len / size)) (len / size)) (Err (Record (first bad (len / size)))) (Ok (len / size)))
    (Err Size)

-- a fault by the numbers that a table's length and its records have
unfoldable pub told : (sizeNumber recordNumber : ℕ) → TableFault → Fault
told sn rn Size = fault sn 0
told sn rn (Record r) = fault rn r

-- the same of what a check answers: no fault where it is passed
unfoldable pub answered : {A : Type 0} (sizeNumber recordNumber : ℕ) → Result A TableFault → Fault
answered sn rn (Ok a) = no_fault
answered sn rn (Err f) = told sn rn f
