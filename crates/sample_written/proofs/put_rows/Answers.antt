-- `sample_written::put_rows` meets its contract. Assumes nothing.
use Rattle.sample_written.proofs.Building.{no_row, more_rows}
use Rattle.sample_written.proofs.put_rows.Goals as goal

pub loop-f-init : goal.loop-f-init
loop-f-init c = no_row _ _

pub loop-f-preserved : goal.loop-f-preserved
loop-f-preserved c = more_rows _ _ _ c.loop-f.invariant c.row.ensures c.put_bytes.ensures
