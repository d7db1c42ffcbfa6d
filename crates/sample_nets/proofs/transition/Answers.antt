-- `sample_nets::transition` meets its contract. Assumes nothing.
use Rattle.sample_bytes.specs.Bytes.{bytes}
use Rattle.sample_nets.specs.Tables.{transition}
use Rattle.sample_nets.proofs.transition.Goals as goal

pub returns : goal.returns
unfolding bytes transition
returns c = simp (c.put_number-3.ensures, c.put_number-2.ensures, c.put_number.ensures, c.from.ensures)
