-- `sample_pnml::put_decimal` meets its contract. Assumes nothing.
use Rattle.sample_pnml.proofs.Puts.{recast, digit, two_digits}
use Rattle.sample_pnml.proofs.put_decimal.Goals as goal

pub returns-then-n-lt10 : goal.returns-then-n-lt10
returns-then-n-lt10 c = recast (digit _ c.if-n-lt10.true) c.put_part.ensures

pub returns : goal.returns
returns c = recast (two_digits _ c.if-n-lt10.false c.requires.1) c.put_part-2.ensures
