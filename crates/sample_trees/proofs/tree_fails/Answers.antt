-- `sample_trees::tree_fails` meets its contract. Assumes nothing.
use Rattle.sample_trees.proofs.Writing.{fails_by}
use Rattle.sample_trees.proofs.tree_fails.Goals as goal

pub returns : goal.returns
returns c =
    fails_by _ _ _
    c.node.ensures
    c.node-2.ensures
    c.node-3.ensures
    c.node-4.ensures
    c.put_bytes.ensures
    c.put_bytes-2.ensures
    c.put_bytes-3.ensures
    c.put_bytes-4.ensures
