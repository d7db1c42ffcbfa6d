-- `sample_nets::optional` meets its contract. Assumes nothing.
use Rattle.sample_bytes.specs.Bytes.{bytes}
use Rattle.sample_nets.specs.Tables.{transition, optional}
use Rattle.sample_nets.proofs.optional.Goals as goal

pub returns : goal.returns
unfolding bytes transition optional
returns c = simp c.transition-record.ensures
