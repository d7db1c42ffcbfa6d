-- `pnml_put::transitions` meets its contract. The invariant: the first t transitions are put. Assumes nothing.
use mathlib.Core.Path.{ap}
use native.Mathlib.Nat.{le_antisymm}
use native.Mathlib.Omega.{arith}
use Rattle.net.specs.Table.{action_at}
use Rattle.pnml_shape.specs.Drawing as drawing
use Rattle.pnml_net.specs.Nets.{countdown}
use Rattle.pnml_put.specs.Put.{transitions_text, entry_at}
use Rattle.pnml_put.proofs.Fits.{fit_none, fit_join, fit_recast}
use Rattle.pnml_put.proofs.Pieces.{transitions_more}
use Rattle.pnml_put.proofs.Texts.{entry_read}
use Rattle.pnml_put.proofs.transitions.Goals as goal

pub loop-t-init : goal.loop-t-init
unfolding countdown drawing.transitions drawing.joined
loop-t-init c = fit_none _ _ c.requires.0

pub loop-t-preserved : goal.loop-t-preserved
unfolding action_at
loop-t-preserved c =
    let net = c.args.net.now in
    fit_recast (omega arith) (transitions_more (entry_at net) _ _ (entry_read net _ c.u16_at-action.ensures))
    (fit_join c.loop-t.invariant c.transition-next.ensures)

pub shape_of-room : goal.shape_of-room
shape_of-room c = c.loop-t.invariant.kept

pub returns : goal.returns
returns c =
    let e = le_antisymm c.loop-t.auto.t-end c.loop-t-test.false in
    fit_recast (omega arith) (ap (λ k. transitions_text (entry_at c.args.net.now) k) e) c.loop-t.invariant
