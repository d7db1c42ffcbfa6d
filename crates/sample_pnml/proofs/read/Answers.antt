-- `sample_pnml::read` meets its contract. Assumes nothing.
use Rattle.sample_pnml.proofs.Answers.{read_told}
use Rattle.sample_pnml.proofs.read.Goals as goal

pub returns : goal.returns
returns c = read_told _ _ _ _ c.read.ensures.answer c.read_numbers.ensures
