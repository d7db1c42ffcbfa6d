-- `category::CategoryRecord::action` meets its contract. Assumes nothing.
use Rattle.category.specs.Records.{action_at}
use Rattle.category.proofs.CategoryRecord.action.Goals as goal

pub returns : goal.returns
unfolding action_at
returns c = c.u16_at.ensures
