-- `stores::put_bytes` meets its contract. The invariant: the bytes that are left, stored from at + i on, lead where all lead from the first.
-- Assumes nothing.
use Prim.Native.Nat.{◌+◌, ◌-◌}
use mathlib.Core.Path.{◌≡◌}
use lib.Seq.{sets}
use Rattle.stores.specs.Low.{low_bytes}
use Rattle.stores.proofs.put_bytes.Given as goal

abbrev pub invariant-loop-i : goal.invariant-loop-i
invariant-loop-i l = sets l.room (l.at + l.i) (low_bytes (l.n - l.i) l.v) ≡ sets l.initial.room l.at (low_bytes l.n l.x)
