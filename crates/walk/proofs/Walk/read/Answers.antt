-- `walk::Walk::read` meets its contract. Assumes nothing.
use mathlib.Core.Path.{sym, ◌∙◌}
use Rattle.walk.specs.Calls as calls
use Rattle.walk.proofs.Walks.{read_refused, read_granted}
use Rattle.walk.proofs.Walk.read.Goals as goal

pub returns-then-loaded : goal.returns-then-loaded
unfolding calls.answer_of calls.told
returns-then-loaded c = read_granted _ (sym c.loaded.ensures ∙ c.if-loaded.true)

pub returns-else-loaded : goal.returns-else-loaded
unfolding calls.refused_by calls.answer_of calls.told
returns-else-loaded c = read_refused _ (sym c.loaded.ensures ∙ c.if-loaded.false)
