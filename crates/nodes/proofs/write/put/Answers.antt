-- `nodes::write/put` meets its contract. Assumes nothing.
use mathlib.Core.Path.{◌∙◌, ap}
use lib.Seq.{sets, take-length}
use Rattle.nodes.proofs.write.put.Goals as goal

pub returns : goal.returns
returns c = c.copy.ensures ∙ ap (sets c.args.room.now c.args.at) (take-length c.args.bytes.now)
