-- `checker::admit/check_last` meets its contract. Assumes nothing.
use mathlib.Core.Path.{sym, ap, ◌∙◌}
use mathlib.Core.Bool.{◌&&◌}
use lib.Dec.{ltb}
use Prim.Native.Nat.{ℕ}
use Rattle.bitset.specs.Sets.{within}
use Rattle.checker.specs.Outcomes as outcomes
use Rattle.pctl.specs.Table.{formulas}
use Rattle.checker.proofs.Admitting.{last_size, last_good, last_ask}
use Rattle.checker.proofs.admit.check_last.Goals as goal

pub returns-in_default : goal.returns-in_default
unfolding outcomes.input outcomes.fault_of outcomes.OwnNumber
returns-in_default c = (last_size _ _ _ c.in_default.ensures, tt)

pub returns-then-within-from : goal.returns-then-within-from
unfolding outcomes.input outcomes.fault_of outcomes.OwnNumber formulas
returns-then-within-from c =
    (last_good c.args.a c.args.formulas.now c.args.tree.now _ c.in-Some.ensures _ (c.within.ensures ∙ ap (λ (n : ℕ). within n c.args.a.marking) c.from.ensures) (ap (λ (n : ℕ). c.within.result && ltb n (formulas c.args.formulas.now)) (sym c.from-2.ensures) ∙ c.if-within-from.true), tt)

pub returns-else-within-from : goal.returns-else-within-from
unfolding outcomes.fault_of outcomes.input outcomes.OwnNumber formulas
returns-else-within-from c =
    (last_ask c.args.a c.args.formulas.now c.args.tree.now _ c.in-Some.ensures _ (c.within.ensures ∙ ap (λ (n : ℕ). within n c.args.a.marking) c.from.ensures) (ap (λ (n : ℕ). c.within.result && ltb n (formulas c.args.formulas.now)) (sym c.from-2.ensures) ∙ c.if-within-from.false), tt)
