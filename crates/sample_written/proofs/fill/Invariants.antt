-- `sample_written::fill` meets its contract. The invariant: the first i bytes are filled. Assumes nothing.
use Rattle.std.proofs.Common.{◌≡◌}
use Rattle.std.proofs.lemmas.List.Edits.{sets}
use Rattle.sample_written.specs.Told.{filled}
use Rattle.sample_written.proofs.fill.Given as goal

abbrev pub invariant-loop-i : goal.invariant-loop-i
invariant-loop-i l = l.room ≡ sets l.initial.room 0 (filled l.i)
