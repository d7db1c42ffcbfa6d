-- `walk::Walk::loaded` meets its contract. Assumes nothing.
use native.Mathlib.Omega.{arith}
use Rattle.walk.specs.State.{state_good, loaded}
use Rattle.walk.proofs.Walk.loaded.Goals as goal

pub returns-then-within-2 : goal.returns-then-within-2
unfolding state_good loaded
returns-then-within-2 c = grind arith

pub returns-else-within-2 : goal.returns-else-within-2
unfolding state_good loaded
returns-else-within-2 c = grind arith
