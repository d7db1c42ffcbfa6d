-- `nodes::read/node_at` meets its contract. Assumes nothing.
use Rattle.nodes.specs.Nodes as nodes
use Rattle.tables.proofs.Numbers.{field_one}
use Rattle.nodes.proofs.Reading.{node-by}
use Rattle.nodes.proofs.read.node_at.Goals as goal

pub returns : goal.returns
unfolding nodes.node_at
returns c = node-by c.sequent_at.ensures c.u32_at.ensures c.u32_at-2.ensures (field_one _ _) (field_one _ _) (field_one _ _)
