-- `category::follows` meets its contract. Assumes nothing.
use Rattle.category.specs.Serving.{follows}
use Rattle.category.proofs.follows.Goals as goal

pub returns : goal.returns
unfolding follows
returns c = simp c.good_byte.ensures
