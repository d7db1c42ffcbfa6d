-- `walk::net_good` meets its contract. Assumes nothing.
use native.Mathlib.Omega.{arith}
use Rattle.net.specs.Table.{places_good}
use Rattle.walk.specs.State.{transitions_good, net_good}
use Rattle.walk.proofs.net_good.Goals as goal

pub returns-then-contains-2 : goal.returns-then-contains-2
unfolding places_good transitions_good net_good
returns-then-contains-2 c = grind arith

pub returns-else-contains-2 : goal.returns-else-contains-2
unfolding places_good transitions_good net_good
returns-else-contains-2 c = grind arith
