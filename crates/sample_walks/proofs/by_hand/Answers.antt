-- `sample_walks::by_hand` meets its contract. Assumes nothing.
use Rattle.walk.specs.State as state
use Rattle.sample_walks.specs.Samples as samples
use Rattle.sample_walks.proofs.by_hand.Goals as goal

pub returns : goal.returns
unfolding samples.by_hand state.empty
returns c = simp c.new.ensures
