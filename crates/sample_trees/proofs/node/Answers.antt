-- `sample_trees::node` meets its contract. Assumes nothing.
use Rattle.sample_trees.proofs.Writing.{node-by}
use Rattle.sample_trees.proofs.node.Goals as goal

pub returns : goal.returns
returns c =
    simp (c.from.ensures, c.from-2.ensures, c.from-3.ensures, c.from-4.ensures, c.from-5.ensures, c.from-6.ensures, c.from-7.ensures, c.from-8.ensures, c.from-9.ensures) at (
    node-by _ _ _ _ _ _ _ _ _ _ _ _
    c.put_number.ensures
    c.put_number-2.ensures
    c.put_number-3.ensures
    c.put_number-4.ensures
    c.put_number-5.ensures
    c.put_number-6.ensures
    c.put_number-7.ensures
    c.put_number-8.ensures
    c.put_number-9.ensures
    c.put_number-10.ensures
    c.put_number-11.ensures
    c.put_number-12.ensures)
