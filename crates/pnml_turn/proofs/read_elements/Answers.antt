-- `pnml_turn::read_elements` meets its contract. Assumes nothing.
use Rattle.pnml_turn.proofs.Loop.{begins}
use Rattle.pnml_turn.proofs.read_elements.Goals as goal

pub loop-next-init : goal.loop-next-init
loop-next-init c = begins _ _ c.requires.opened _ c.begin-s.ensures _ _ _ c.requires.pre_value
