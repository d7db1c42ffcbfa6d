-- `sample_written::put_ands` meets its contract. Assumes nothing.
use Rattle.sample_written.proofs.Building.{no_and, more_ands}
use Rattle.sample_written.proofs.put_ands.Goals as goal

pub loop-f-init : goal.loop-f-init
loop-f-init c = no_and _

pub loop-f-preserved : goal.loop-f-preserved
loop-f-preserved c = more_ands _ _ c.loop-f.invariant c.put_formula.ensures
