-- `sample_walks::after` meets its contract. Assumes nothing.
use Rattle.std.proofs.Common.{refl, arith}
use Rattle.sample_walks.specs.Samples as samples
use Rattle.sample_walks.proofs.Calling.{next_call, all_calls}
use Rattle.sample_walks.proofs.after.Goals as goal

pub loop-i-init : goal.loop-i-init
unfolding samples.called_to
loop-i-init c = refl

pub loop-i-preserved : goal.loop-i-preserved
loop-i-preserved c = next_call _ _ _ _ _ _ c.call_at.ensures c.make-outcome.ensures.1 c.loop-i.invariant

pub returns : goal.returns
returns c = all_calls _ _ _ _ _ _ (omega arith) c.loop-i.invariant c.started-walk.ensures
