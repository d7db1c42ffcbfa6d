-- `sample_walks::full` meets its contract. Assumes nothing.
use Rattle.walk.specs.History as history
use Rattle.sample_walks.specs.Samples as samples
use Rattle.sample_walks.proofs.full.Goals as goal

pub returns : goal.returns
unfolding samples.full samples.call_of history.called
returns c = simp (c.fire_often.ensures, c.make-outcome.ensures.1, c.new.ensures)
