-- `compact::new_operand` meets its contract. Assumes nothing.
use mathlib.Core.Path.{sym}
use Rattle.tables.proofs.Tests.{if_true, if_false}
use Rattle.compact_tables.specs.Tables.{operand_by}
use Rattle.compact.proofs.new_operand.Goals as goal

pub returns-then-has : goal.returns-then-has
unfolding operand_by
returns-then-has c = sym (if_true _ _ _ c.if-has.true)

pub returns : goal.returns
unfolding operand_by
returns c = sym (if_false _ _ _ c.if-has.false)
