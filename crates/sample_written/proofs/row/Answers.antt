-- `sample_written::row` meets its contract. Assumes nothing.
use Rattle.sample_written.specs.Tables.{row}
use Rattle.sample_written.proofs.row.Goals as goal

pub returns : goal.returns
unfolding row
returns c = simp (c.formula.ensures, c.digit.ensures, c.digit-action.ensures, c.digit-right.ensures, c.digit-left.ensures, c.from.ensures, c.from-2.ensures, c.from-3.ensures)
