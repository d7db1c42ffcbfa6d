-- `sample_written::put_rows` meets its contract. The invariant: the records of f rows are put. Assumes nothing.
use Rattle.std.proofs.Common.{◌≡◌}
use Rattle.std.proofs.lemmas.List.Edits.{sets}
use Rattle.sample_written.specs.Tables.{table as table_of}
use Rattle.sample_written.proofs.put_rows.Given as goal

abbrev pub invariant-loop-f : goal.invariant-loop-f
invariant-loop-f l = l.table ≡ sets l.initial.table 0 (table_of l.rows l.f)
