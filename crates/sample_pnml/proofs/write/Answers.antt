-- `sample_pnml::write` meets its contract. Assumes nothing.
use Rattle.sample_pnml.proofs.Answers.{write_told}
use Rattle.sample_pnml.proofs.write.Goals as goal

pub returns : goal.returns
returns c = write_told _ _ _ _ c.write.ensures c.written_numbers.ensures
