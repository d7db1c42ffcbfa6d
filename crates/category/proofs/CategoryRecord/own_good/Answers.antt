-- `category::CategoryRecord::own_good` meets its contract. Assumes nothing.
use Rattle.category.specs.Faults.{own_good}
use Rattle.category.proofs.CategoryRecord.own_good.Goals as goal

pub returns : goal.returns
unfolding own_good
returns c = simp (c.text_good.ensures, c.lender.ensures)
