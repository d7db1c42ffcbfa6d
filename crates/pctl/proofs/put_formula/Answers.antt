-- `pctl::put_formula` meets its contract: its fields stand one after the other. Assumes nothing.
use Prim.Native.Nat.{◌*◌}
use Rattle.pctl.specs.Table.{formula_size}
use Rattle.pctl.proofs.Written.{formula_put}
use Rattle.pctl.proofs.put_formula.Goals as goal

pub returns : goal.returns
returns c =
    let s = c.args in
    formula_put s.room.now (s.k * formula_size) s.r
    (rw c.from.ensures at c.put_bytes.ensures) c.put_bytes-2.ensures (rw c.from-2.ensures at c.put_bytes-3.ensures)
    (rw c.from-3.ensures at c.put_bytes-4.ensures) (rw c.from-4.ensures at c.put_bytes-5.ensures)
