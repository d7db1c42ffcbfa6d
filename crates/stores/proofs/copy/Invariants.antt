-- `stores::copy` meets its contract. The loop's invariant: the first k bytes are stored. Assumes nothing.
use Rattle.stores.proofs.Copies.{Copied}
use Rattle.stores.proofs.copy.Given as goal

abbrev pub invariant-loop-k : goal.invariant-loop-k
invariant-loop-k l = Copied l.table l.from l.initial.room l.at l.k l.room
