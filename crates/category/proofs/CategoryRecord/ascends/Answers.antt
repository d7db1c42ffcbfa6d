-- `category::CategoryRecord::ascends` meets its contract. Assumes nothing.
use borrow.Author.Tests.{ne_eqb}
use Rattle.category.specs.Faults.{ascends}
use Rattle.category.proofs.CategoryRecord.ascends.Goals as goal

pub returns-then-self-eq0 : goal.returns-then-self-eq0
unfolding ascends
returns-then-self-eq0 c = simp c.if-self-eq0.true

pub returns : goal.returns
unfolding ascends
returns c = simp (ne_eqb _ _ c.if-self-eq0.false, c.action.ensures, c.action-2.ensures, c.new.ensures.0, c.new.ensures.1)
