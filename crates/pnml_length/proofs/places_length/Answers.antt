-- `pnml_length::places_length` meets its contract. The invariant: the first i places are counted. Assumes nothing.
use mathlib.Core.Path.{refl, ap}
use native.Mathlib.Nat.{le_antisymm}
use native.Mathlib.Omega.{arith}
use Rattle.pnml_shape.specs.Drawing as drawing
use Rattle.pnml_net.specs.Nets.{countdown, mark_of}
use Rattle.pnml_put.specs.Put.{places_text}
use Rattle.pnml_put.proofs.Pieces.{places_more}
use Rattle.pnml_length.proofs.Sums.{none, count_more, recount, place_length}
use Rattle.pnml_length.proofs.places_length.Goals as goal

pub loop-i-init : goal.loop-i-init
unfolding countdown drawing.places drawing.joined
loop-i-init c = none

pub loop-i-preserved : goal.loop-i-preserved
loop-i-preserved c =
    let f = mark_of c.args.marking in
    let d = c.digits.ensures in
    count_more 74 _ (drawing.joined (drawing.place_pieces c.loop-i.i (f c.loop-i.i))) c.loop-i.invariant (place_length _ _ _ _ d.0)
    (omega (arith, d.1)) (omega arith) (places_more f _ _ refl)

pub returns : goal.returns
returns c =
    let e = le_antisymm c.loop-i.auto.i-end c.loop-i-test.false in
    recount (omega arith) (ap (λ k. places_text (mark_of c.args.marking) k) e) c.loop-i.invariant
