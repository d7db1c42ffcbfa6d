-- `sample_walks::load_and_fire` meets its contract. Assumes nothing.
use Rattle.sample_walks.specs.Samples as samples
use Rattle.sample_walks.proofs.load_and_fire.Goals as goal

pub returns : goal.returns
unfolding samples.loaded_with
returns c = rw (c.load-outcome.ensures.1, c.new.ensures) at c.fire.ensures
