-- `pnml_state::mark` meets its contract. Assumes nothing.
use Rattle.pnml_state.proofs.Kept.{marked_in, marked_out}
use Rattle.pnml_state.proofs.mark.Goals as goal

pub returns-then-places-lt64 : goal.returns-then-places-lt64
returns-then-places-lt64 c = marked_in _ _ _ _ c.if-places-lt64.true c.add.ensures

pub returns : goal.returns
returns c = marked_out _ _ _ c.if-places-lt64.false
