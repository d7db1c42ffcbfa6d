-- `compact::reached` meets its contract. The invariant: the operands of the marked records from f down to i are marked. Assumes nothing.
use Prim.Native.Nat.{◌+◌, ◌-◌}
use Rattle.compact_tables.specs.Reached.{known}
use Rattle.compact.specs.Serving.{Marks}
use Rattle.compact.proofs.reached.Given as goal

abbrev pub invariant-loop-i : goal.invariant-loop-i
invariant-loop-i l = Marks (known l.formulas l.f (l.f + 1 - l.i)) l.marks
