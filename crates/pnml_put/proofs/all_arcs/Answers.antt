-- `pnml_put::all_arcs` meets its contract. The invariant: the arcs of the first t transitions are put. Assumes nothing.
use mathlib.Core.Path.{ap, ◌∙◌}
use native.Mathlib.Nat.{le_antisymm}
use native.Mathlib.Omega.{arith}
use Rattle.net.specs.Table.{pre_at, post_at}
use Rattle.pnml_put.specs.Put.{arcs_from, table_arcs}
use Rattle.pnml_put.proofs.Fits.{fit_recast}
use Rattle.pnml_put.proofs.Arcs.{no_arcs, join_arcs, recast_arcs, table_more, arcs-text}
use Rattle.pnml_put.proofs.all_arcs.Goals as goal

pub loop-t-init : goal.loop-t-init
unfolding table_arcs
loop-t-init c = no_arcs _ _ _ c.requires.0

pub loop-t-preserved : goal.loop-t-preserved
unfolding pre_at post_at
loop-t-preserved c =
    recast_arcs (omega arith) (table_more _ _ _ _ _ c.u64_at-pre.ensures c.u64_at-post.ensures) (join_arcs c.loop-t.invariant c.arcs_at-spot.ensures)

pub shape_of-room : goal.shape_of-room
shape_of-room c = c.loop-t.invariant.text.kept

pub returns : goal.returns
returns c =
    let a = c.args in
    let e = le_antisymm c.loop-t.auto.t-end c.loop-t-test.false in
    fit_recast (omega arith) (ap (λ k. arcs_from 0 (table_arcs a.net.now a.places k)) e ∙ arcs-text _) c.loop-t.invariant.text
