-- `pnml_records::put_records` meets its contract. The invariant: the records of the transitions below t stand in the room. Assumes nothing.
use mathlib.Core.Path.{◌≡◌}
use lib.ListN.{length}
use lib.Seq.{sets}
use Rattle.pnml_records.specs.Records.{records_by}
use Rattle.pnml_records.proofs.put_records.Given as goal

abbrev pub invariant-loop-t : goal.invariant-loop-t
invariant-loop-t l = (length l.room ≡ length l.initial.room) × (l.room ≡ sets l.initial.room 0 (records_by l.kept.pre l.kept.post l.kept.action l.t))
