-- `walk::Walk::new` meets its contract. Assumes nothing.
use mathlib.Core.Path.{refl}
use Rattle.walk.specs.State.{empty}
use Rattle.walk.proofs.Walk.new.Goals as goal

pub returns : goal.returns
unfolding empty
returns c = refl
