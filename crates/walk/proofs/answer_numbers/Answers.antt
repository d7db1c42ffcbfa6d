-- `walk::answer_numbers` meets its contract. Assumes nothing.
use Rattle.walk.specs.Calls as calls
use Rattle.walk.proofs.answer_numbers.Goals as goal

pub returns-in_default : goal.returns-in_default
unfolding calls.answer_of
returns-in_default c = simp c.in_default.is c.in_numbers.ensures

pub returns-in-Unloaded : goal.returns-in-Unloaded
unfolding calls.refused_by calls.answer_of
returns-in-Unloaded c = simp (c.in-Err.is, c.in-Unloaded.is) c.in_numbers-in-Unloaded.ensures

pub returns-in-Net : goal.returns-in-Net
unfolding calls.refused_by calls.answer_of
returns-in-Net c = simp (c.in-Err.is, c.in-Net.is) c.refusal_numbers.ensures

pub returns-in-Full : goal.returns-in-Full
unfolding calls.refused_by calls.answer_of
returns-in-Full c = simp (c.in-Err.is, c.in-Full.is) c.in_numbers-in-Full.ensures
