-- `pnml_line::put_refused` meets its contract. Assumes nothing.
use Rattle.pnml_line.specs.Line.{refused_line}
use Rattle.pnml_line.proofs.put_refused.Goals as goal

pub returns : goal.returns
unfolding refused_line
returns c = c.put_placed.ensures
