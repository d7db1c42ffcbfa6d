-- `sample_pnml::put_byte` meets its contract. Assumes nothing.
use Rattle.sample_pnml.proofs.Puts.{recast, pad, no_pad}
use Rattle.sample_pnml.proofs.put_byte.Goals as goal

pub returns-then-ends : goal.returns-then-ends
returns-then-ends c = recast (pad _ _ c.if-ends.true) c.put_part.ensures

pub returns : goal.returns
returns c = recast (no_pad _ _ c.if-ends.false) c.put_part-2.ensures
