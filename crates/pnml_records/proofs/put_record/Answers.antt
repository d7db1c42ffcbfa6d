-- `pnml_records::put_record` meets its contract: its four fields stand one after the other. Assumes nothing.
use Prim.Native.Nat.{◌*◌}
use Rattle.net.specs.Table.{transition_size}
use Rattle.pnml_records.proofs.Stores.{record_put}
use Rattle.pnml_records.proofs.put_record.Goals as goal

pub returns : goal.returns
returns c =
    let s = c.args in
    record_put s.room.now (s.t * transition_size) s.pre s.post s.action
    c.put_bytes.ensures c.put_bytes-2.ensures (rw c.from.ensures at c.put_bytes-3.ensures) c.put_bytes-4.ensures
