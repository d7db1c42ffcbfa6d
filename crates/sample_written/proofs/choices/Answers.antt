-- `sample_written::choices` meets its contract. Assumes nothing.
use Rattle.sample_bytes.specs.Bytes.{bytes}
use Rattle.sample_trees.specs.Tables.{formula}
use Rattle.sample_written.specs.Tables.{row, table, choices}
use Rattle.sample_written.proofs.choices.Goals as goal

pub returns : goal.returns
unfolding bytes formula row table choices
returns c = c.put_rows.ensures
