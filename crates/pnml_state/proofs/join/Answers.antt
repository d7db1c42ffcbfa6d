-- `pnml_state::join` meets its contract. Assumes nothing.
use Rattle.pnml_state.proofs.Kept.{not_own, no-entry, no_member, joined_in}
use Rattle.pnml_state.proofs.join.Goals as goal

pub returns-then-not-own : goal.returns-then-not-own
returns-then-not-own c = not_own _ _ _ _ c.if-not-own.true-raw

pub returns-then-transition-ge64 : goal.returns-then-transition-ge64
returns-then-transition-ge64 c = no-entry _ _ _ _ c.if-transition-ge64.true

pub returns-then-place-ge64 : goal.returns-then-place-ge64
returns-then-place-ge64 c = no_member _ _ _ _ c.if-place-ge64.true

pub returns : goal.returns
returns c = joined_in _ _ _ _ _ c.if-not-own.false-raw c.if-transition-ge64.false c.if-place-ge64.false c.add.ensures
