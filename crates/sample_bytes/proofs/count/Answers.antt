-- `sample_bytes::count` meets its contract. Assumes nothing.
use Rattle.std.proofs.Common.{rules, arith, refl, ◌≡◌, length}
use Rattle.sample_bytes.specs.Rooms as rooms
use Rattle.sample_bytes.proofs.Rooms.{counted, passed}
use Rattle.sample_bytes.proofs.count.Goals.{then-byte-b, else-byte-b}
use Rattle.sample_bytes.proofs.count.Goals as goal

pub loop-byte-init : goal.loop-byte-init
unfolding rooms.count
loop-byte-init c = (omega arith, refl)

pub overflow_add-n : goal.overflow_add-n
overflow_add-n c = let h = c.loop-byte.invariant.0 in search rules

pub loop-byte-preserved : goal.loop-byte-preserved
loop-byte-preserved c =
    let i = c.loop-byte.invariant in
    elim c.if-byte-b.branch [
      | then-byte-b w ↦ (omega (arith, i.0, w.n-is), rw w.n-is (counted _ _ _ _ i.1 w.if-byte-b.true))
      | else-byte-b w ↦ (omega (arith, i.0, w.n-is), rw w.n-is (passed _ _ _ _ i.1 w.if-byte-b.false))
    ]

pub returns : goal.returns
returns c =
    let d : c.loop-byte.byte-index ≡ length c.args.room.now = omega (arith, c.loop-byte-test.false, c.loop-byte.auto.byte-index-end) in
    rw d at c.loop-byte.invariant.1
