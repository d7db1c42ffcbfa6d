-- `nodes::read/ask_of` meets its contract. Assumes nothing.
use Rattle.nodes.specs.Nodes as nodes
use Rattle.tables.proofs.Numbers.{field_one}
use Rattle.nodes.proofs.Reading.{ask-by}
use Rattle.nodes.proofs.read.ask_of.Goals as goal

pub returns : goal.returns
unfolding nodes.ask_of
returns c = ask-by c.u64_at.ensures c.u16_at.ensures (field_one 10 _) (field_one 11 _)
