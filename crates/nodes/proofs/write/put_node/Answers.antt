-- `nodes::write/put_node` meets its contract: its fields stand one after the other. Assumes nothing.
use mathlib.Core.Path.{◌∙◌, ap}
use Prim.Native.Nat.{◌*◌}
use native.Mathlib.Omega.{arith}
use lib.Seq.{sets}
use Rattle.nodes.specs.Nodes.{node_size}
use Rattle.nodes.proofs.Written.{low_eight, low_four, low_two, node_put}
use Rattle.nodes.proofs.write.put_node.Goals as goal

pub returns : goal.returns
returns c =
    let s = c.args in
    node_put s.room.now (s.k * node_size) s.n
    (c.put.ensures ∙ ap (sets _ _) (c.to_le_bytes.ensures ∙ low_eight _))
    (c.put-2.ensures ∙ ap (sets _ _) (c.to_le_bytes-2.ensures ∙ low_eight _))
    (c.put-3.ensures ∙ ap (sets _ _) (c.to_le_bytes-3.ensures ∙ low_eight _))
    (c.put-4.ensures ∙ ap (sets _ _) (c.to_le_bytes-4.ensures ∙ low_four _))
    (c.put-5.ensures ∙ ap (sets _ _) (c.to_le_bytes-5.ensures ∙ low_four _))
    (c.put-6.ensures ∙ ap (sets _ _) (c.to_le_bytes-6.ensures ∙ low_two _))
    c.put-7.ensures
    (omega arith) (omega arith) (omega arith) (omega arith) (omega arith) (omega arith)
