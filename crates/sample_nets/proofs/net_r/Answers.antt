-- `sample_nets::net_r` meets its contract. Assumes nothing.
use Rattle.sample_bytes.specs.Bytes.{bytes}
use Rattle.sample_nets.specs.Tables.{transition, net_r}
use Rattle.sample_nets.proofs.net_r.Goals as goal

pub returns : goal.returns
unfolding bytes transition net_r
returns c = simp (c.put_transition-3.ensures, c.put_transition-2.ensures, c.put_transition.ensures)
