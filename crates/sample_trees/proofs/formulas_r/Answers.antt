-- `sample_trees::formulas_r` meets its contract. Assumes nothing.
use Rattle.sample_bytes.specs.Bytes.{bytes}
use Rattle.sample_trees.specs.Tables.{formula, formulas_r}
use Rattle.sample_trees.proofs.formulas_r.Goals as goal

pub returns : goal.returns
unfolding bytes formula formulas_r
returns c =
    simp (c.put_bytes-3.ensures, c.formula-3.ensures, c.put_bytes-2.ensures, c.formula-2.ensures, c.put_bytes.ensures, c.formula.ensures)
