-- `sample_written::formulas_r` meets its contract. Assumes nothing.
use Rattle.sample_bytes.specs.Bytes.{bytes}
use Rattle.sample_trees.specs.Tables.{formula}
use Rattle.sample_written.specs.Tables.{row, table, formulas_r}
use Rattle.sample_written.proofs.formulas_r.Goals as goal

pub returns : goal.returns
unfolding bytes formula row table formulas_r
returns c = c.put_rows.ensures
