-- `sample_walks::see` meets its contract. Assumes nothing.
use Rattle.walk.specs.Calls.{answer_of}
use Rattle.sample_walks.proofs.Calling.{in_seen}
use Rattle.sample_walks.proofs.see.Goals.{in-Ok, in-Err}
use Rattle.sample_walks.proofs.see.Goals as goal

pub returns : goal.returns
unfolding answer_of
returns c =
    let q = c.read_numbers-read.ensures in
    elim c.match-read.branch [
      | in-Ok w ↦ rw w.said-is (in_seen _ _ _ _ _ _ w.answer_numbers-said.ensures (w.in-Ok.ensures.0, q.0, q.1, q.2))
      | in-Err w ↦ rw w.said-is (in_seen _ _ _ _ _ _ w.answer_numbers-said-in-Err.ensures (w.in-Err.ensures.0, q.0, q.1, q.2))
    ]
