-- `line::check_line` meets its contract. Assumes nothing.
use Rattle.line.proofs.check_line.Goals as goal

pub returns : goal.returns
returns c = rw c.check.ensures.0 at c.write_line.ensures
