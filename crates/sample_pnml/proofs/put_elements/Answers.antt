-- `sample_pnml::put_elements` meets its contract. Assumes nothing.
use Rattle.std.proofs.Common.{arith}
use Rattle.sample_pnml.proofs.Puts.{elements_length, no_elements, more_elements}
use Rattle.sample_pnml.proofs.put_elements.Goals as goal

pub loop-i-init : goal.loop-i-init
loop-i-init c = no_elements _ _ _ _

pub put_element-next-requires : goal.put_element-next-requires
put_element-next-requires c =
    let l = elements_length c.args.opening.now c.args.closing.now c.loop-i.i c.requires.1 c.requires.3 (omega arith) in
    omega (arith, l, c.loop-i.invariant.after_it)

pub loop-i-preserved : goal.loop-i-preserved
loop-i-preserved c = more_elements _ _ _ c.loop-i.invariant c.put_element-next.ensures
