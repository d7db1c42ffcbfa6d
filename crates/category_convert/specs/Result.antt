-- The converter's result in the numbers of documents 01 and 02. Assumes nothing.
use Rattle.std.specs.Prelude.{ℕ, List, Result, Ok, Err}
use Rattle.tables.specs.Faults.{Fault, no_fault, fault}
use Rattle.tables.specs.Checks.{told}
use Rattle.category_borrowed.specs.Answer.{Answer}
use Rattle.category_convert.specs.declared.ConvertRefusal.{ConvertRefusal}
use Rattle.category_convert.specs.declared.ConvertRefusal.TheVariants.{Table, Short}

-- the number and the record
unfoldable pub found_of : Result ℕ ConvertRefusal → Fault
found_of (Ok n) = no_fault
found_of (Err (Table f)) = told 9 10 f
found_of (Err Short) = fault 12 0

-- the number of records rewritten
unfoldable pub rewritten_of : Result ℕ ConvertRefusal → ℕ
rewritten_of (Ok n) = n
rewritten_of (Err e) = 0

-- the answer, with the room after
unfoldable pub answer_of : Result ℕ ConvertRefusal → List ℕ → Answer
answer_of r room = record { found = found_of r; rewritten = rewritten_of r; room = room }
