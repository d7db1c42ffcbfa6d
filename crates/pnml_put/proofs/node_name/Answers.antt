-- `pnml_put::node_name` meets its contract. Assumes nothing.
use Rattle.pnml_put.proofs.Puts.{join, byte}
use Rattle.pnml_put.proofs.node_name.Goals as goal

pub returns : goal.returns
returns c = join (byte _ _ _) c.number.ensures
