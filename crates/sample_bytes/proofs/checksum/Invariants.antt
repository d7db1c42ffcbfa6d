-- `sample_bytes::checksum` meets its contract. The invariant: the sum of those before the byte. Assumes nothing.
use Rattle.std.proofs.Common.{◌≡◌, ◌<◌}
use Rattle.sample_bytes.specs.Rooms.{checksum}
use Rattle.sample_bytes.proofs.checksum.Given as goal

abbrev pub invariant-loop-byte : goal.invariant-loop-byte
invariant-loop-byte l = (l.sum < 1000003) × (l.sum ≡ checksum l.room l.byte-index)
