-- `sample_nets::put_transition` meets its contract. Assumes nothing.
use Rattle.sample_nets.proofs.put_transition.Goals as goal

pub returns : goal.returns
returns c = simp c.transition-record.ensures at c.put_bytes.ensures
