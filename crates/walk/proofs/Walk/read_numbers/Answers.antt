-- `walk::Walk::read_numbers` meets its contract. Assumes nothing.
use Rattle.walk.specs.Calls as calls
use Rattle.walk.proofs.Walk.read_numbers.Goals as goal

pub returns-in-Ok : goal.returns-in-Ok
unfolding calls.told
returns-in-Ok c = (c.in-Ok.ensures.1, c.in-Ok.ensures.2, c.in-Ok.ensures.3)

pub returns-in-Err : goal.returns-in-Err
unfolding calls.told
returns-in-Err c = (c.in-Err.ensures.1, c.in-Err.ensures.2, c.in-Err.ensures.3)
