-- `sample_nets::net_three` meets its contract. Assumes nothing.
use Rattle.sample_bytes.specs.Bytes.{bytes}
use Rattle.sample_nets.specs.Tables.{transition, net_three}
use Rattle.sample_nets.proofs.net_three.Goals as goal

pub returns : goal.returns
unfolding bytes transition net_three
returns c = simp (c.put_transition-3.ensures, c.put_transition-2.ensures, c.put_transition.ensures)
