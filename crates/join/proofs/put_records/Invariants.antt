-- `join::put_records` meets its contract. The invariant: the records below t are stored. Assumes nothing.
use Rattle.stores.proofs.Laid.{Stored}
use Rattle.join.specs.Joint.{shifted_record}
use Rattle.join.proofs.put_records.Given as goal

abbrev pub invariant-loop-t : goal.invariant-loop-t
invariant-loop-t l = Stored (shifted_record l.places l.second) l.initial.room l.at l.room l.t
