-- The code's answer in the numbers of documents 01 and 02. Assumes nothing.
use Rattle.std.specs.Prelude.{ℕ, Result, Ok, Err, ⊤}
use Rattle.tables.specs.Faults.{fault}
use Rattle.checker.specs.Outcomes.{verdict}
use Rattle.checker.specs.Outcomes as outcomes
use Rattle.compact_tables.specs.Tables.{Tables}
use Rattle.compact_tables.specs.Answer.{Answer}
use Rattle.compact.specs.declared.CompactRefusal.{CompactRefusal}
use Rattle.compact.specs.declared.CompactRefusal.TheVariants.{Rejected, Short}
use Rattle.compact.specs.declared.Numbers.{Numbers}

-- the number, 0 where granted; the record or the node; the formula records left, 0 where refused
unfoldable pub numbers_of : Result ℕ CompactRefusal → Numbers
numbers_of (Ok count) = record { number = 0; place = 0; count = count }
numbers_of (Err (Rejected r)) = record { number = (verdict (Err r)).number; place = (verdict (Err r)).place; count = 0 }
numbers_of (Err Short) = record { number = 12; place = 0; count = 0 }

-- what the input checks find has a number of its own
unfoldable pub OwnNumbers : CompactRefusal → Type 0
OwnNumbers (Rejected r) = outcomes.OwnNumbers r
OwnNumbers Short = ⊤

-- the answer, with these lent tables after
unfoldable pub answer_of : Result ℕ CompactRefusal → Tables → Answer
unfolding numbers_of
answer_of r rooms = record { found = fault (numbers_of r).number (numbers_of r).place; count = (numbers_of r).count; rooms = rooms }
