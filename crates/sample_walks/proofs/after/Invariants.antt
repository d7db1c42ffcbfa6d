-- `sample_walks::after` meets its contract. The invariant: i calls are made. Assumes nothing.
use Rattle.std.proofs.Common.{◌≡◌}
use Rattle.sample_walks.specs.Samples as samples
use Rattle.sample_walks.proofs.after.Given as goal

abbrev pub invariant-loop-i : goal.invariant-loop-i
invariant-loop-i l = l.walk ≡ samples.called_to l.initial.walk l.list l.i
