-- `sample_bytes::count` meets its contract. The invariant: how many of those before the byte. Assumes nothing.
use Rattle.std.proofs.Common.{◌≡◌, ◌≤◌}
use Rattle.sample_bytes.specs.Rooms as rooms
use Rattle.sample_bytes.proofs.count.Given as goal

abbrev pub invariant-loop-byte : goal.invariant-loop-byte
invariant-loop-byte l = (l.n ≤ l.byte-index) × (l.n ≡ rooms.count l.b l.room l.byte-index)
