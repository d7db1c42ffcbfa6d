-- `sample_trees::formula` meets its contract. Assumes nothing.
use Rattle.sample_bytes.specs.Bytes.{bytes}
use Rattle.sample_trees.specs.Tables.{formula}
use Rattle.sample_trees.proofs.formula.Goals as goal

pub returns : goal.returns
unfolding bytes formula
returns c =
    simp (c.put_number-4.ensures, c.put_number-3.ensures, c.put_number-2.ensures, c.put_number.ensures, c.from.ensures, c.from-2.ensures, c.from-3.ensures, c.from-4.ensures)
