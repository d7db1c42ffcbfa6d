-- `category::CategoryRecord::spare_zero` meets its contract. Assumes nothing.
use Rattle.category.specs.Records.{spare_zero}
use Rattle.category.proofs.CategoryRecord.spare_zero.Goals as goal

pub returns : goal.returns
unfolding spare_zero
returns c = simp c.u16_at-pair.ensures
