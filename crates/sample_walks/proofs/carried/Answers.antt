-- `sample_walks::carried` meets its contract. Assumes nothing.
use borrow.Author.Tests.{lt-ltb, le-ltb}
use Rattle.sample_walks.specs.Samples as samples
use Rattle.sample_walks.proofs.carried.Goals as goal

pub returns-then-t-ge64 : goal.returns-then-t-ge64
unfolding samples.fields_of
returns-then-t-ge64 c = simp (le-ltb _ _ c.if-t-ge64.true)

pub returns : goal.returns
unfolding samples.fields_of
returns c = simp (lt-ltb _ _ c.if-t-ge64.false, c.after-walk.ensures)
