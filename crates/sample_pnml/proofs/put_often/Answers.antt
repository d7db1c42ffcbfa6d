-- `sample_pnml::put_often` meets its contract. Assumes nothing.
use Rattle.std.proofs.Common.{arith}
use Rattle.sample_pnml.proofs.Puts.{often_length, no_often, more_often, all_often}
use Rattle.sample_pnml.proofs.put_often.Goals as goal

pub loop-init : goal.loop-init
loop-init c = no_often _ _

pub put_part-at-requires : goal.put_part-at-requires
put_part-at-requires c = omega (arith, often_length c.args.part.now c.loop.counter c.requires, c.loop.invariant.after_it)

pub loop-preserved : goal.loop-preserved
loop-preserved c = more_often _ _ c.loop.invariant c.put_part-at.ensures

pub returns : goal.returns
returns c = (all_often _ (omega arith) (omega arith) c.loop.invariant).stored
