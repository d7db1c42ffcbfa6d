-- The operands are lower: the measure of both is the record's number. Assumes nothing.
use Rattle.tree_put.proofs.Turns.{Turn}
use Rattle.tree_put.proofs.+write_fails_write_holds.Given as goal

abbrev pub decreases-write_holds : goal.decreases-write_holds
decreases-write_holds l = l.f

abbrev pub decreases-write_fails : goal.decreases-write_fails
decreases-write_fails l = l.f

abbrev pub invariant-write_fails-loop-t : goal.invariant-write_fails-loop-t
invariant-write_fails-loop-t l =
    Turn l.tables.net.now l.tables.formulas.now l.f l.m l.at l.initial.child l.initial.next l.initial.memo l.initial.room l.memo l.room l.child l.next l.t
