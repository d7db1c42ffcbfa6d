-- `walk::Walk::try_fire` meets its contract. Assumes nothing.
use mathlib.Core.Path.{sym, ◌∙◌}
use native.Mathlib.Omega.{arith}
use Rattle.net.specs.Step.{fired}
use Rattle.walk.specs.Calls as calls
use Rattle.walk.proofs.Walks.{loaded_most, fire_unloaded, fire_absent, fire_disabled, fire_full, fire_granted}
use Rattle.walk.proofs.Walk.try_fire.Goals as goal

pub returns-then-not-loaded : goal.returns-then-not-loaded
unfolding calls.refused_by calls.answer_of
returns-then-not-loaded c = fire_unloaded _ _ (sym c.loaded.ensures ∙ c.if-not-loaded.true)

pub returns-then-self-transition : goal.returns-then-self-transition
unfolding calls.answer_of
returns-then-self-transition c = fire_absent _ _ (sym c.loaded.ensures ∙ c.if-not-loaded.false) c.if-self-transition.true _ c.into.ensures

pub bounds-self-t : goal.bounds-self-t
bounds-self-t c = omega (arith, loaded_most _ (sym c.loaded.ensures ∙ c.if-not-loaded.false))

pub bounds-self-t-2 : goal.bounds-self-t-2
bounds-self-t-2 c = omega (arith, loaded_most _ (sym c.loaded.ensures ∙ c.if-not-loaded.false))

pub returns-then-not-enabled_by : goal.returns-then-not-enabled_by
unfolding calls.answer_of
returns-then-not-enabled_by c =
    fire_disabled _ _ (sym c.loaded.ensures ∙ c.if-not-loaded.false) c.if-self-transition.false (sym c.enabled_by.ensures ∙ c.if-not-enabled_by.true)
    _ c.disabled_by.ensures _ c.into-then-not-enabled_by.ensures

pub returns-then-self-ge-MOST : goal.returns-then-self-ge-MOST
unfolding calls.refused_by calls.answer_of
returns-then-self-ge-MOST c =
    fire_full _ _ (sym c.loaded.ensures ∙ c.if-not-loaded.false) c.if-self-transition.false (sym c.enabled_by.ensures ∙ c.if-not-enabled_by.false)
    c.if-self-ge-MOST.true

pub move_to-requires : goal.move_to-requires
move_to-requires c = loaded_most _ (sym c.loaded.ensures ∙ c.if-not-loaded.false)

pub returns : goal.returns
unfolding fired calls.answer_of
returns c =
    fire_granted _ _ (sym c.loaded.ensures ∙ c.if-not-loaded.false) c.if-self-transition.false (sym c.enabled_by.ensures ∙ c.if-not-enabled_by.false)
    c.if-self-ge-MOST.false _ c.fired_by-present.ensures c.move_to.ensures
