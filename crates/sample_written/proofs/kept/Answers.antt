-- `sample_written::kept` meets its contract. Assumes nothing.
use Rattle.std.proofs.Common.{◌∙◌, sym, arith}
use Rattle.sample_written.proofs.Rooms.{none_kept, stayed, changed, all_kept}
use Rattle.sample_written.proofs.kept.Goals as goal
use Rattle.sample_written.proofs.kept.Goals.{then-from-i, else-from-i}

pub loop-i-init : goal.loop-i-init
loop-i-init c = (omega arith, omega arith, none_kept _ _)

pub loop-i-preserved : goal.loop-i-preserved
loop-i-preserved c = let l = c.loop-i in (
  omega arith,
  elim c.if-from-i.branch [ then-from-i w ↦ omega arith | else-from-i w ↦ omega arith ],
  elim c.if-from-i.branch [
    | then-from-i w ↦ w.n-is ∙ stayed _ _ _ _ l.auto.i l.invariant.2 (sym c.from.ensures ∙ w.if-from-i.true)
    | else-from-i w ↦ w.n-is ∙ changed _ _ _ _ l.auto.i l.invariant.2 (λ e. w.if-from-i.false (c.from.ensures ∙ e))
  ],
)

pub returns : goal.returns
returns c = all_kept _ _ _ _ (omega arith) c.loop-i.invariant.0 (omega arith) c.loop-i.invariant.2
