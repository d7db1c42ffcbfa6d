-- `sample_pnml::put_spaced` meets its contract. Assumes nothing.
use Rattle.std.proofs.Common.{arith}
use Rattle.sample_pnml.proofs.Puts.{spaced_length, no_spaced, more_spaced, all_spaced}
use Rattle.sample_pnml.proofs.put_spaced.Goals as goal

pub loop-i-init : goal.loop-i-init
loop-i-init c = no_spaced _ _

pub put_byte-at-requires : goal.put_byte-at-requires
put_byte-at-requires c = omega (arith, spaced_length c.args.text.now c.loop-i.i, c.loop-i.invariant.after_it)

pub loop-i-preserved : goal.loop-i-preserved
loop-i-preserved c = more_spaced _ _ _ c.loop-i.invariant c.tag_ends.ensures c.put_byte-at.ensures

pub returns : goal.returns
returns c = all_spaced _ (omega arith) (omega arith) c.loop-i.invariant
