-- `category::run_follows` meets its contract. The loop's invariant: `ok` says whether each byte passed may stand after the one before it.
-- Assumes nothing.
use borrow.Author.Rules.{rules}
use Rattle.tables.proofs.Below.{every_start, every_next, every_done}
use Rattle.category.specs.Serving.{run_follows}
use Rattle.category.proofs.run_follows.Goals as goal

pub loop-j-init : goal.loop-j-init
loop-j-init c = every_start _

pub loop-j-preserved : goal.loop-j-preserved
loop-j-preserved c = every_next _ _ c.loop-j.invariant c.follows-ok.ensures

pub returns : goal.returns
unfolding run_follows
returns c = every_done _ 16 _ c.loop-j.invariant (search rules) (search rules)
