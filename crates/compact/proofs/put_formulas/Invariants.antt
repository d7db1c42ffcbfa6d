-- `compact::put_formulas` meets its contract. The invariant: the marked ones of the first i records are stored. Assumes nothing.
use Rattle.compact.proofs.Writing.{Kept}
use Rattle.compact.proofs.put_formulas.Given as goal

abbrev pub invariant-loop-i : goal.invariant-loop-i
invariant-loop-i l = Kept l.formulas l.marks l.numbers l.initial.room l.room l.n l.i
