-- `pnml_put::places` meets its contract. The invariant: the first i places are put. Assumes nothing.
use mathlib.Core.Path.{ap}
use native.Mathlib.Nat.{le_antisymm}
use native.Mathlib.Omega.{arith}
use Rattle.pnml_shape.specs.Drawing as drawing
use Rattle.pnml_net.specs.Nets.{countdown, mark_of}
use Rattle.pnml_put.specs.Put.{places_text}
use Rattle.pnml_put.proofs.Fits.{fit_none, fit_join, fit_recast}
use Rattle.pnml_put.proofs.Pieces.{places_more}
use Rattle.pnml_put.proofs.places.Goals as goal

pub loop-i-init : goal.loop-i-init
unfolding countdown drawing.places drawing.joined
loop-i-init c = fit_none _ _ c.requires.0

pub loop-i-preserved : goal.loop-i-preserved
loop-i-preserved c =
    fit_recast (omega arith) (places_more (mark_of c.args.marking) _ _ c.mark.ensures.0) (fit_join c.loop-i.invariant c.place-next.ensures)

pub shape_of-room : goal.shape_of-room
shape_of-room c = c.loop-i.invariant.kept

pub returns : goal.returns
returns c =
    let e = le_antisymm c.loop-i.auto.i-end c.loop-i-test.false in
    fit_recast (omega arith) (ap (λ k. places_text (mark_of c.args.marking) k) e) c.loop-i.invariant
