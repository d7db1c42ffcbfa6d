-- Which category records are faulty, and the number and the record that a check gives. Document 01: "Actions strictly ascend", kind 0, and
-- refusals 9 and 10. Document 02, F-6: "10 for any kind 1 record outside the converter". Assumes nothing.
use Rattle.std.specs.Prelude.{ℕ, ◌-◌, Bool, not, cond, ◌&&◌, ◌||◌, List, Result, length, eqb, leb, ltb}
use Rattle.tables.specs.Below.{none_below}
use Rattle.tables.specs.Faults.{Fault, or_else, scan_fault}
use Rattle.tables.specs.Checks.{answered}
use Rattle.tables.specs.declared.TableFault.{TableFault}
use Rattle.category.specs.Records.{record_size, text_room, action_at, kind_at, lender_at, text_byte, spare_zero, text_length}

-- the action of record i is above that of the record before it
unfoldable pub ascends : List ℕ → ℕ → Bool
ascends file i = eqb i 0 || ltb (action_at file (i - 1)) (action_at file i)

-- a byte that a text may have: 0x20 to 0x7E, 0xA0 to 0xFF
unfoldable pub good_byte : ℕ → Bool
good_byte b = (leb 0x20 b && leb b 0x7E) || (leb 0xA0 b && leb b 0xFF)

-- byte j, which is b, is wrong in a text of `size` good bytes with zeros after them
unfoldable pub wrong_byte : (size j b : ℕ) → Bool
wrong_byte size j b = cond (ltb j size) (not (good_byte b)) (not (eqb b 0))

-- the 24 bytes of the text of record i are `size` good bytes, then zeros
unfoldable pub text_is : List ℕ → ℕ → ℕ → Bool
text_is file i size = none_below (λ j. wrong_byte size j (text_byte file i j)) text_room

-- the text of record i is 1 to 24 good bytes, then zeros
unfoldable pub text_good : List ℕ → ℕ → Bool
text_good file i = leb 1 (text_length file i) && text_is file i (text_length file i)

-- what kind 0 asks: the lender is 0, and the text is good
unfoldable pub own_good : List ℕ → ℕ → Bool
own_good file i = eqb (lender_at file i) 0 && text_good file i

-- record i is faulty: a kind byte that is not 0 is a fault
unfoldable pub record_bad : List ℕ → ℕ → Bool
record_bad file i = not (ascends file i && spare_zero file i && eqb (kind_at file i) 0 && own_good file i)

-- the check of one file: 9 where its length is not 0 to 2,000 records, else 10 with the lowest faulty record
unfoldable pub file_fault : List ℕ → Fault
file_fault file = scan_fault 9 10 record_size 0 2000 (record_bad file) (length file)

-- neither 9 nor 10
unfoldable pub faultless : List ℕ → Bool
faultless file = eqb (file_fault file).number 0

-- the check of both files: the translation's fault comes before the house file's
unfoldable pub check_fault : (translation house : List ℕ) → Fault
check_fault translation house = or_else (file_fault translation) (file_fault house)

-- document 01's number and record of each answer of `check`: none where it passes, 9 for the size, 10 with the record
unfoldable pub checked : Result (Unit {0}) TableFault → Fault
checked = answered 9 10
