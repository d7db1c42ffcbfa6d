-- `category::CategoryRecord::bad` meets its contract. Assumes nothing.
use Rattle.category.specs.Faults.{record_bad}
use Rattle.category.proofs.CategoryRecord.bad.Goals as goal

pub returns-then-ascends-spare_zero : goal.returns-then-ascends-spare_zero
unfolding record_bad
returns-then-ascends-spare_zero c =
    let head = rw (c.ascends.ensures, c.spare_zero.ensures, c.kind.ensures) at c.if-ascends-spare_zero.true in
    simp (c.own_good.ensures, head)

pub returns : goal.returns
unfolding record_bad
returns c =
    let head = rw (c.ascends.ensures, c.spare_zero.ensures, c.kind.ensures) at c.if-ascends-spare_zero.false in
    simp head
