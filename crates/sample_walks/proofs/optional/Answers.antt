-- `sample_walks::optional` meets its contract. Assumes nothing.
use mathlib.Core.Path.{ap}
use Rattle.sample_walks.proofs.optional.Goals as goal

pub returns : goal.returns
returns c = ap (λ w. w.net.optional) c.after-walk.ensures
