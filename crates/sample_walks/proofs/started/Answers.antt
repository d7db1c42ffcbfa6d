-- `sample_walks::started` meets its contract. Assumes nothing.
use Rattle.sample_walks.specs.Samples as samples
use Rattle.sample_walks.proofs.started.Goals as goal

pub returns-in-New : goal.returns-in-New
unfolding samples.started
returns-in-New c = simp (c.in-New.is, c.new.ensures)

pub returns-in-Full : goal.returns-in-Full
unfolding samples.started
returns-in-Full c = simp (c.in-Full.is, c.full.ensures)

pub returns-in-ByHand : goal.returns-in-ByHand
unfolding samples.started
returns-in-ByHand c = simp (c.in-ByHand.is, c.by_hand.ensures)
