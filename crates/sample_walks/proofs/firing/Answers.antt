-- `sample_walks::firing` meets its contract. Assumes nothing.
use Rattle.sample_walks.proofs.Calling.{in_numbers}
use Rattle.sample_walks.proofs.firing.Goals as goal

pub returns : goal.returns
returns c = in_numbers _ _ _ c.answer_numbers.ensures c.load_and_fire-outcome.ensures.0
