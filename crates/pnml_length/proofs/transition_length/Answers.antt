-- `pnml_length::transition_length` meets its contract. Assumes nothing.
use native.Mathlib.Omega.{arith}
use Rattle.pnml_length.proofs.Sums.{pressed_length, optional_length, widened}
use Rattle.pnml_length.proofs.transition_length.Goals as goal

pub returns-then-optional : goal.returns-then-optional
returns-then-optional c = optional_length _ _ c.digits.ensures (widened c.from.ensures c.digits-2.ensures) c.if-optional.true

pub returns : goal.returns
returns c =
    pressed_length _ _ c.digits.ensures (widened c.from.ensures c.digits-2.ensures) (omega (arith, c.ranges.action.fits)) c.if-optional.false
