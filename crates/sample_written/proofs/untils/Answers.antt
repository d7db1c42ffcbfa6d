-- `sample_written::untils` meets its contract. Assumes nothing.
use Rattle.sample_bytes.specs.Bytes.{bytes}
use Rattle.sample_trees.specs.Tables.{formula}
use Rattle.sample_written.specs.Tables.{row, table, untils}
use Rattle.sample_written.proofs.untils.Goals as goal

pub returns : goal.returns
unfolding bytes formula row table untils
returns c = c.put_rows.ensures
