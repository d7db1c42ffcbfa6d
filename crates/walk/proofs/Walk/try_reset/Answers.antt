-- `walk::Walk::try_reset` meets its contract. Assumes nothing.
use mathlib.Core.Path.{sym, ◌∙◌}
use Rattle.walk.specs.Calls as calls
use Rattle.walk.proofs.Walks.{loaded_most, reset_refused, reset_granted}
use Rattle.walk.proofs.Walk.try_reset.Goals as goal

pub returns-then-not-loaded : goal.returns-then-not-loaded
unfolding calls.refused_by calls.answer_of
returns-then-not-loaded c = reset_refused _ (sym c.loaded.ensures ∙ c.if-not-loaded.true)

pub move_to-requires : goal.move_to-requires
move_to-requires c = loaded_most _ (sym c.loaded.ensures ∙ c.if-not-loaded.false)

pub returns : goal.returns
unfolding calls.answer_of
returns c =
    let r = reset_granted _ (sym c.loaded.ensures ∙ c.if-not-loaded.false) in
    (r.0, c.move_to.ensures ∙ r.1)
