-- `nodes::read/sequent_at` meets its contract. Assumes nothing.
use Rattle.nodes.specs.Nodes as nodes
use Rattle.tables.proofs.Numbers.{field_one}
use Rattle.nodes.proofs.Reading.{sequent-by}
use Rattle.nodes.proofs.read.sequent_at.Goals as goal

pub returns : goal.returns
unfolding nodes.sequent_at
returns c =
    sequent-by c.u64_at.ensures c.u64_at-2.ensures c.u64_at-3.ensures c.u16_at.ensures (field_one _ _) (field_one _ _) (field_one _ _)
