-- `sample_written::operators` meets its contract. Assumes nothing.
use Rattle.sample_bytes.specs.Bytes.{bytes}
use Rattle.sample_trees.specs.Tables.{formula}
use Rattle.sample_written.specs.Tables.{row, table, operators}
use Rattle.sample_written.proofs.operators.Goals as goal

pub returns : goal.returns
unfolding bytes formula row table operators
returns c = c.put_rows.ensures
