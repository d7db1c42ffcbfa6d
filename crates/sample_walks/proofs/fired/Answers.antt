-- `sample_walks::fired` meets its contract. Assumes nothing.
use mathlib.Core.Path.{ap, ◌∙◌}
use Rattle.sample_walks.specs.Samples as samples
use Rattle.sample_walks.proofs.fired.Goals as goal

pub returns : goal.returns
returns c = c.see.ensures ∙ ap samples.seen c.load_and_fire-outcome.ensures.1
