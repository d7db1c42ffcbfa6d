-- `sample_written::put_formula` meets its contract. Assumes nothing.
use Rattle.sample_written.proofs.put_formula.Goals as goal

pub returns : goal.returns
returns c = simp (c.formula-record.ensures, c.from.ensures) at c.put_bytes.ensures
