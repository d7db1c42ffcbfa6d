-- `line::write_line` meets its contract. Assumes nothing.
use Rattle.checker.specs.Outcomes.{verdict}
use Rattle.line.specs.Line.{line_of}
use Rattle.line.proofs.write_line.Goals as goal

pub returns-in-Ok : goal.returns-in-Ok
unfolding verdict line_of
returns-in-Ok c = simp c.in-Ok.is c.put_accepted.ensures

pub returns-in-Err : goal.returns-in-Err
returns-in-Err c = simp c.in-Err.is c.put_rejected.ensures
