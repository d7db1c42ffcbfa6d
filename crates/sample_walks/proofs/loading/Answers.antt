-- `sample_walks::loading` meets its contract. Assumes nothing.
use Rattle.sample_walks.proofs.Calling.{in_numbers}
use Rattle.sample_walks.proofs.loading.Goals as goal

pub returns : goal.returns
returns c = in_numbers _ _ _ c.answer_numbers.ensures c.load-outcome.ensures.0
