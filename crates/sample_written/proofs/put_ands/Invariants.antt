-- `sample_written::put_ands` meets its contract. The invariant: f of them are put. Assumes nothing.
use Rattle.std.proofs.Common.{◌≡◌}
use Rattle.std.proofs.lemmas.List.Edits.{sets}
use Rattle.sample_written.specs.Tables.{ands}
use Rattle.sample_written.proofs.put_ands.Given as goal

abbrev pub invariant-loop-f : goal.invariant-loop-f
invariant-loop-f l = l.table ≡ sets l.initial.table 8 (ands l.f)
