-- The operands are lower: with the record f the measures are 3f + 2 for `measure`, which calls `evaluate` at f, 3f + 1 for `evaluate` and 3f for
-- `evaluate_steps`. Assumes nothing.
use mathlib.Core.Path.{◌≡◌}
use Prim.Native.Nat.{◌+◌, ◌*◌}
use lib.ListN.{length}
use Rattle.net.specs.Table.{net_of}
use Rattle.tree_size.proofs.Turns.{Stepped}
use Rattle.tree_size.proofs.Tables.+evaluate_evaluate_steps_measure.Given as goal

abbrev pub decreases-measure : goal.decreases-measure
decreases-measure l = 3 * l.f + 2

abbrev pub decreases-evaluate : goal.decreases-evaluate
decreases-evaluate l = 3 * l.f + 1

abbrev pub decreases-evaluate_steps : goal.decreases-evaluate_steps
decreases-evaluate_steps l = 3 * l.f

abbrev pub invariant-evaluate_steps-loop-t : goal.invariant-evaluate_steps-loop-t
invariant-evaluate_steps-loop-t l =
    (length l.memo ≡ length l.initial.memo) × Stepped (net_of 0 l.self.net.now) l.self.formulas.now l.memo l.f l.m l.size l.t
