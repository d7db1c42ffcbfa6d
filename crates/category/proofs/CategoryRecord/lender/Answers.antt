-- `category::CategoryRecord::lender` meets its contract. Assumes nothing.
use Rattle.category.specs.Records.{lender_at}
use Rattle.category.proofs.CategoryRecord.lender.Goals as goal

pub returns : goal.returns
unfolding lender_at
returns c = c.u16_at.ensures
