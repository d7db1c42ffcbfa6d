-- `pnml_put::arcs_by` meets its contract. The invariant: the arcs of the first p places are put. Assumes nothing.
use mathlib.Core.Path.{sym, ap}
use Prim.Native.Nat.{zero-le}
use native.Mathlib.Nat.{le_antisymm, div-one}
use native.Mathlib.Omega.{arith}
use Rattle.pnml_net.specs.Nets.{arcs_by}
use Rattle.pnml_put.proofs.Arcs.{no_arcs, join_arcs, recast_arcs, by_more, rest_more, by_all, by_gap, rest_gap}
use Rattle.pnml_put.proofs.arcs_by.Goals as goal

pub loop-p-init : goal.loop-p-init
unfolding arcs_by
loop-p-init c = (zero-le, sym (div-one _), no_arcs _ _ _ c.requires.0)

pub shape_of-room-then-rest-eq0 : goal.shape_of-room-then-rest-eq0
shape_of-room-then-rest-eq0 c = c.loop-p.invariant.2.text.kept

pub returns-then-rest-eq0 : goal.returns-then-rest-eq0
returns-then-rest-eq0 c =
    let i = c.loop-p.invariant in
    recast_arcs (omega (arith, i.0, c.requires)) (by_all _ _ _ _ _ _ i.1 c.if-rest-eq0.true i.0) i.2

pub overflow_add-p-then-p-places : goal.overflow_add-p-then-p-places
overflow_add-p-then-p-places c = omega arith

pub loop-p-smaller-then-p-places : goal.loop-p-smaller-then-p-places
loop-p-smaller-then-p-places c = omega arith

pub loop-p-preserved-then-p-places : goal.loop-p-preserved-then-p-places
loop-p-preserved-then-p-places c =
    let i = c.loop-p.invariant in
    (c.if-p-places.true, rest_gap _ _ _ i.1, recast_arcs (omega arith) (by_gap _ _ _ _ _ i.1 c.if-rest-eq0-2.true) i.2)

pub loop-p-preserved : goal.loop-p-preserved
loop-p-preserved c =
    let i = c.loop-p.invariant in (
      omega (arith, c.loop-p-test.true),
      rest_more _ _ _ i.1,
      recast_arcs (omega arith) (by_more _ _ _ _ _ i.1) (join_arcs i.2 c.arc_where-next.ensures),
    )

pub shape_of-room : goal.shape_of-room
shape_of-room c = c.loop-p.invariant.2.text.kept

pub returns : goal.returns
returns c =
    let a = c.args in
    let e = le_antisymm c.loop-p.invariant.0 c.loop-p-test.false in
    recast_arcs (omega (arith, c.loop-p.invariant.0, c.requires)) (ap (λ k. arcs_by a.set a.t a.post k) e) c.loop-p.invariant.2
