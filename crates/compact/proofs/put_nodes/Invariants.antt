-- `compact::put_nodes` meets its contract. The invariant: the first k nodes are stored. Assumes nothing.
use Rattle.compact.proofs.Writing.{Put}
use Rattle.compact.proofs.put_nodes.Given as goal

abbrev pub invariant-loop-k : goal.invariant-loop-k
invariant-loop-k l = Put l.tree l.numbers l.initial.room l.room l.k
