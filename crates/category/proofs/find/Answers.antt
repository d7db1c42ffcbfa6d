-- `category::find` meets its contract. Assumes nothing.
use mathlib.Core.Path.{sym, subst, ◌∙◌}
use Prim.Native.Nat.{ℕ, ◌<◌}
use Rattle.category.specs.Records.{count}
use Rattle.category.specs.Labels.{stop_of}
use Rattle.category.proofs.Search.{record_hit, record_other, record_end}
use Rattle.category.proofs.find.Goals as goal

pub returns-in_err-stop : goal.returns-in_err-stop
unfolding stop_of
returns-in_err-stop c = rw c.from_residual.ensures (record_end _ _ c.in_err-stop.ensures)

pub returns-then-has_action : goal.returns-then-has_action
unfolding stop_of
returns-then-has_action c =
    let s = c.in_ok-stop.ensures in
    let n = c.new-found.ensures in
    let h = rw (n.0, n.1) at c.has_action.ensures in
    let e = record_hit _ _ _ s.1 s.0 (sym h ∙ c.if-has_action.true) in
    (subst (λ (x : ℕ). x < count c.args.file.now) (sym e) s.0, (n.0, e ∙ sym n.1))

pub returns-else-has_action : goal.returns-else-has_action
unfolding stop_of
returns-else-has_action c =
    let s = c.in_ok-stop.ensures in
    let n = c.new-found.ensures in
    let h = rw (n.0, n.1) at c.has_action.ensures in
    record_other _ _ _ s.1 s.0 (sym h ∙ c.if-has_action.false)
