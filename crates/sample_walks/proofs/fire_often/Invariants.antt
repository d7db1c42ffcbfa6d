-- `sample_walks::fire_often` meets its contract. The invariant: the firings that are left lead from the walk where all lead from the first.
-- Assumes nothing.
use Rattle.std.proofs.Common.{◌≡◌, ◌-◌}
use Rattle.sample_walks.proofs.Calling.{often}
use Rattle.sample_walks.proofs.fire_often.Given as goal

abbrev pub invariant-loop : goal.invariant-loop
invariant-loop l = often l.now (l.times - l.counter) ≡ often l.initial.now l.times
