-- `sample_bytes::put_number` meets its contract. The invariant: the bytes that are left, stored from k on, lead where all lead from the first.
-- Assumes nothing.
use Rattle.std.proofs.Common.{◌≡◌, ◌+◌, ◌-◌}
use Rattle.std.proofs.lemmas.List.Edits.{sets}
use Rattle.sample_bytes.specs.Bytes.{bytes}
use Rattle.sample_bytes.proofs.put_number.Given as goal

abbrev pub invariant-loop-k : goal.invariant-loop-k
invariant-loop-k l = sets l.table l.k (bytes (l.at + l.size - l.k) l.rest) ≡ sets l.initial.table l.at (bytes l.size l.n)
