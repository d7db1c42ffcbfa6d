-- `nodes::write/put_ask` meets its contract: its fields stand one after the other. Assumes nothing.
use mathlib.Core.Path.{◌∙◌, ap}
use native.Mathlib.Omega.{arith}
use lib.Seq.{sets}
use Rattle.nodes.proofs.Written.{low_eight, low_two, ask_put}
use Rattle.nodes.proofs.write.put_ask.Goals as goal

pub returns : goal.returns
returns c =
    let s = c.args in
    ask_put s.room.now s.a
    (c.put.ensures ∙ ap (sets _ _) (c.to_le_bytes.ensures ∙ low_eight _))
    (c.put-2.ensures ∙ ap (sets _ _) (c.to_le_bytes-2.ensures ∙ low_two _))
    c.put-3.ensures (omega arith) (omega arith)
