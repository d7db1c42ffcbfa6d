-- `pnml_length::arcs_length` meets its contract. The invariant: the arcs of the first t transitions are counted. Assumes nothing.
use mathlib.Core.Path.{ap}
use native.Mathlib.Nat.{le_antisymm}
use native.Mathlib.Omega.{arith}
use Rattle.net.specs.Table.{pre_at, post_at}
use Rattle.pnml_put.specs.Put.{table_arcs, arcs_text}
use Rattle.pnml_put.proofs.Arcs.{table_more}
use Rattle.pnml_length.proofs.Sums.{no_arcs, join_arcs, recast_arcs, arcs_count, recount}
use Rattle.pnml_length.proofs.arcs_length.Goals as goal

pub loop-t-init : goal.loop-t-init
unfolding table_arcs
loop-t-init c = no_arcs _ _

pub loop-t-preserved : goal.loop-t-preserved
unfolding pre_at post_at
loop-t-preserved c =
    recast_arcs (omega arith) (table_more _ _ _ _ _ c.u64_at-pre.ensures c.u64_at-post.ensures)
    (join_arcs c.loop-t.invariant (join_arcs c.arcs_by-half.ensures c.arcs_by-sum.ensures))

pub returns : goal.returns
returns c =
    let a = c.args in
    let e = le_antisymm c.loop-t.auto.t-end c.loop-t-test.false in
    recount (omega arith) (ap (λ k. arcs_text a.net.now a.places k) e) (arcs_count _ c.loop-t.invariant)
