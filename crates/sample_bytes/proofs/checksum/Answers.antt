-- `sample_bytes::checksum` meets its contract. Assumes nothing.
use Rattle.std.proofs.Common.{arith, refl}
use Rattle.sample_bytes.specs.Rooms.{checksum}
use Rattle.sample_bytes.proofs.Rooms.{summed}
use Rattle.sample_bytes.proofs.checksum.Goals as goal

pub loop-byte-init : goal.loop-byte-init
unfolding checksum
loop-byte-init c = (omega arith, refl)

pub loop-byte-preserved : goal.loop-byte-preserved
loop-byte-preserved c = (omega arith, rw c.from.ensures (summed _ _ _ c.loop-byte.invariant.1))
