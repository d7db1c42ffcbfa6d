-- `sample_labels::fill` meets its contract. The invariant: i records are written. Assumes nothing.
use Rattle.std.proofs.Common.{◌≡◌}
use Rattle.sample_labels.specs.Files.{filled}
use Rattle.sample_labels.proofs.fill.Given as goal

abbrev pub invariant-loop-i : goal.invariant-loop-i
invariant-loop-i l = l.file ≡ filled l.i l.initial.file
