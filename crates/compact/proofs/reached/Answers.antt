-- `compact::reached` meets its contract. The invariant: the operands of the marked records from f down to i are marked. Assumes nothing.
use native.Mathlib.Omega.{arith}
use borrow.Author.Rules.{rules}
use Rattle.compact.proofs.Records.{few}
use Rattle.compact.proofs.Marks.{pass_start, pass_next, pass_done}
use Rattle.compact.proofs.reached.Goals as goal

pub bounds-marks-f : goal.bounds-marks-f
bounds-marks-f c = few _ c.requires.0 c.args.f c.requires.1

pub overflow_step-i : goal.overflow_step-i
overflow_step-i c = let h = few _ c.requires.0 c.args.f c.requires.1 in search rules

pub loop-i-init : goal.loop-i-init
loop-i-init c = pass_start _ _ (few _ c.requires.0 c.args.f c.requires.1) (omega arith)

pub mark_operands-requires : goal.mark_operands-requires
mark_operands-requires c = (c.requires.0, omega (arith, c.requires.1))

pub loop-i-preserved : goal.loop-i-preserved
loop-i-preserved c = pass_next _ _ _ _ (omega arith) (omega arith) c.loop-i.invariant c.mark_operands.ensures

pub returns : goal.returns
returns c = pass_done _ _ _ c.loop-i.invariant (omega arith)
