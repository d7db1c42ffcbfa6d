-- `pnml_length::transitions_length` meets its contract. The invariant: the first t transitions are counted. Assumes nothing.
use mathlib.Core.Path.{ap}
use native.Mathlib.Nat.{le_antisymm}
use native.Mathlib.Omega.{arith}
use Rattle.net.specs.Table.{action_at}
use Rattle.pnml_shape.specs.Drawing as drawing
use Rattle.pnml_net.specs.Nets.{countdown}
use Rattle.pnml_put.specs.Put.{transitions_text, entry_at}
use Rattle.pnml_put.proofs.Pieces.{transitions_more}
use Rattle.pnml_put.proofs.Texts.{entry_read}
use Rattle.pnml_length.proofs.Sums.{none, count_more, recount}
use Rattle.pnml_length.proofs.transitions_length.Goals as goal

pub loop-t-init : goal.loop-t-init
unfolding countdown drawing.transitions drawing.joined
loop-t-init c = none

pub loop-t-preserved : goal.loop-t-preserved
unfolding action_at
loop-t-preserved c =
    let net = c.args.net.now in
    let e = c.transition_length-length.ensures in
    count_more 107 _ _ c.loop-t.invariant e.exact e.bound (omega arith)
    (transitions_more (entry_at net) _ _ (entry_read net _ c.u16_at-action.ensures))

pub returns : goal.returns
returns c =
    let e = le_antisymm c.loop-t.auto.t-end c.loop-t-test.false in
    recount (omega arith) (ap (λ k. transitions_text (entry_at c.args.net.now) k) e) c.loop-t.invariant
