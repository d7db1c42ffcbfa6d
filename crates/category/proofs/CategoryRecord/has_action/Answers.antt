-- `category::CategoryRecord::has_action` meets its contract. Assumes nothing.
use Rattle.category.specs.Records.{has_action}
use Rattle.category.proofs.CategoryRecord.has_action.Goals as goal

pub returns : goal.returns
unfolding has_action
returns c = simp c.action.ensures
