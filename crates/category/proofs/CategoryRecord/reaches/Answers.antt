-- `category::CategoryRecord::reaches` meets its contract. Assumes nothing.
use Rattle.category.specs.Labels.{reaches}
use Rattle.category.proofs.CategoryRecord.reaches.Goals as goal

pub returns : goal.returns
unfolding reaches
returns c = simp c.action.ensures
