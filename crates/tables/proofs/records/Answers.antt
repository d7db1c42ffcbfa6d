-- `tables::records` meets its contract. Assumes nothing.
use Rattle.tables.specs.Sizes.{sized}
use Rattle.tables.proofs.Counts.{sized_whole, unsized_refused}
use Rattle.tables.proofs.records.Goals as goal

pub returns-then-len-size : goal.returns-then-len-size
unfolding sized
returns-then-len-size c = sized_whole _ _ _ _ c.if-len-size.true

pub returns-else-len-size : goal.returns-else-len-size
unfolding sized
returns-else-len-size c = unsized_refused _ _ _ _ c.if-len-size.false
