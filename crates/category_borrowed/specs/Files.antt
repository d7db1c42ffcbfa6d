-- The category file of document 01, before document 02's F-6: a record of kind 1 borrows the text of another. The converter alone still
-- reads such a file. What both kinds share is `category`'s. Assumes nothing.
use Rattle.std.specs.Prelude.{ℕ, Bool, false, not, cond, ◌&&◌, List, length, eqb}
use Rattle.tables.specs.Below.{some_below}
use Rattle.tables.specs.Faults.{Fault, scan_fault}
use Rattle.category.specs.Records.{record_size, count, kind_at, lender_at, spare_zero, has_action}
use Rattle.category.specs.Faults.{ascends, text_is, own_good}

-- record i has the kind byte 1
unfoldable pub borrows : List ℕ → ℕ → Bool
borrows file i = eqb (kind_at file i) 1

-- record i has the action a and the kind byte 0, so that records of kind 1 can borrow its text
unfoldable pub lends_at : List ℕ → ℕ → ℕ → Bool
lends_at file a i = has_action file a i && eqb (kind_at file i) 0

-- some record of the file, faulty or not, lends the text of the action a
unfoldable pub lends : List ℕ → ℕ → Bool
lends file a = some_below (lends_at file a) (count file)

-- kind 1: the text is all zero, and the lender is the action of a record of kind byte 0
unfoldable pub borrow_good : List ℕ → ℕ → Bool
borrow_good file i = text_is file i 0 && lends file (lender_at file i)

-- what the kind asks; no other kind is good
unfoldable pub kind_good : List ℕ → ℕ → Bool
kind_good file i = cond (eqb (kind_at file i) 0) (own_good file i) (cond (borrows file i) (borrow_good file i) false)

-- record i is faulty by document 01
unfoldable pub faulty_at : List ℕ → ℕ → Bool
faulty_at file i = not (ascends file i && spare_zero file i && kind_good file i)

-- document 01's check of one file: 9 where its length is not 0 to 2,000 records, else 10 with the lowest faulty record
unfoldable pub fault_of : List ℕ → Fault
fault_of file = scan_fault 9 10 record_size 0 2000 (faulty_at file) (length file)

-- the file is valid under document 01: neither 9 nor 10
unfoldable pub valid : List ℕ → Bool
valid file = eqb (fault_of file).number 0
