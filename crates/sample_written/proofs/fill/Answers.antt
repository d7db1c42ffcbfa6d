-- `sample_written::fill` meets its contract. Assumes nothing.
use Rattle.std.proofs.Common.{arith}
use Rattle.sample_written.proofs.Rooms.{unfilled, more_filled, all_filled}
use Rattle.sample_written.proofs.fill.Goals as goal

pub loop-i-init : goal.loop-i-init
loop-i-init c = unfilled _

pub loop-i-preserved : goal.loop-i-preserved
loop-i-preserved c = more_filled _ _ c.loop-i.invariant

pub returns : goal.returns
returns c = all_filled _ (omega arith) c.loop-i.auto.room (omega arith) c.loop-i.invariant
