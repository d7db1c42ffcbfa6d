-- `sample_walks::answer` meets its contract. Assumes nothing.
use Rattle.sample_walks.specs.Samples as samples
use Rattle.sample_walks.proofs.Calling.{in_numbers}
use Rattle.sample_walks.proofs.answer.Goals as goal

pub returns : goal.returns
unfolding samples.call_at
returns c = in_numbers _ _ _ c.answer_numbers.ensures (rw (c.after.ensures, c.call_at.ensures) at c.make-outcome.ensures.0)
