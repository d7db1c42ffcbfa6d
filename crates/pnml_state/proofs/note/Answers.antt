-- `pnml_state::note` meets its contract. Assumes nothing.
use Rattle.pnml_state.proofs.Kept.{noted_in, noted_out}
use Rattle.pnml_state.proofs.note.Goals as goal

pub returns-then-transition-lt64 : goal.returns-then-transition-lt64
returns-then-transition-lt64 c = noted_in _ _ _ c.if-transition-lt64.true

pub returns-else-transition-lt64 : goal.returns-else-transition-lt64
returns-else-transition-lt64 c = noted_out _ _ _ c.if-transition-lt64.false
