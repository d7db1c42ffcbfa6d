-- `sample_pnml::put_element` meets its contract. Assumes nothing.
use native.Mathlib.Omega.{arith}
use Rattle.texts.proofs.Digits.{byte_length}
use Rattle.sample_pnml.specs.Built.{element}
use Rattle.sample_pnml.proofs.Puts.{join}
use Rattle.sample_pnml.proofs.put_element.Goals as goal

pub put_part-requires : goal.put_part-requires
put_part-requires c = omega (arith, byte_length c.args.n (omega arith), c.put_decimal-at.ensures.after_it, c.put_part-at.ensures.after_it)

pub returns : goal.returns
unfolding element
returns c = join c.put_part-at.ensures (join c.put_decimal-at.ensures c.put_part.ensures)
