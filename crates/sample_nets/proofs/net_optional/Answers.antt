-- `sample_nets::net_optional` meets its contract. Assumes nothing.
use Rattle.sample_bytes.specs.Bytes.{bytes}
use Rattle.sample_nets.specs.Tables.{optional_r}
use Rattle.sample_nets.proofs.net_optional.Goals as goal

pub returns : goal.returns
unfolding bytes optional_r
returns c = simp (c.put_bytes.ensures, c.net_r-table.ensures, c.from.ensures)
