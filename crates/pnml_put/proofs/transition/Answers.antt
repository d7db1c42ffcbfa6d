-- `pnml_put::transition` meets its contract. Assumes nothing.
use mathlib.Core.Path.{refl, ap, ◌∙◌}
use mathlib.Core.Bool.{Bool, cond}
use Prim.Native.Nat.{ℕ}
use native.Mathlib.Omega.{arith}
use Rattle.texts.specs.Text.{decimal}
use Rattle.pnml_put.proofs.Puts.{join, recast}
use Rattle.pnml_put.proofs.Pieces.{pressed_text, optional_text, pressed_entry, optional_entry}
use Rattle.pnml_put.proofs.Fits.{fit, unfit, fit_recast, transition_long, longest_most}
use Rattle.pnml_put.proofs.transition.Goals as goal

pub returns-then-room-at : goal.returns-then-room-at
returns-then-room-at c =
    let e = c.longest.ensures in
    fit_recast (longest_most _ e) refl
    (unfit c.requires.0 c.if-room-at.true (transition_long _ _ _ c.requires.1 (omega (arith, c.ranges.action.fits)) e))

pub returns-then-optional : goal.returns-then-optional
returns-then-optional c =
    let e = c.longest.ensures ∙ ap (λ (b : Bool). cond {A = ℕ} b 104 65) c.if-optional.true in
    let action = recast {j = 5} {k = 5} (omega arith) (ap decimal c.from.ensures) c.number-at-2.ensures in
    fit (omega (arith, e, c.if-room-at.false, c.requires))
    (recast (omega arith) (optional_text _ _ ∙ optional_entry _ _ c.if-optional.true)
    (join (join c.word-at.ensures (join c.number-at.ensures (join c.word-at-2.ensures action))) c.word.ensures))

pub returns : goal.returns
returns c =
    let e = c.longest.ensures ∙ ap (λ (b : Bool). cond {A = ℕ} b 104 65) c.if-optional.false in
    let action = recast {j = 5} {k = 5} (omega arith) (ap decimal c.from.ensures) c.number-at-2.ensures in
    fit_recast (omega arith) (pressed_text _ _ ∙ pressed_entry _ _ (omega (arith, c.ranges.action.fits)) c.if-optional.false)
    (fit {k = 65} (omega (arith, e, c.if-room-at.false, c.requires))
    (recast (omega arith) refl (join (join c.word-at.ensures (join c.number-at.ensures (join c.word-at-2.ensures action))) c.word-2.ensures)))
