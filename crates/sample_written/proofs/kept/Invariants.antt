-- `sample_written::kept` meets its contract. The invariant: those before i are counted. Assumes nothing.
use Rattle.std.proofs.Common.{◌≡◌, ◌≤◌, ◌-◌, length}
use Rattle.sample_written.specs.Told.{kept}
use Rattle.sample_written.proofs.kept.Given as goal

abbrev pub invariant-loop-i : goal.invariant-loop-i
invariant-loop-i l = (l.i - l.from ≤ length l.room - l.from) × (l.n ≤ l.i) × (l.n ≡ kept l.room l.from (l.i - l.from))
