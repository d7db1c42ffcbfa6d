-- `join::put_records` meets its contract. The invariant: the records below t are stored. Assumes nothing.
use native.Mathlib.Omega.{arith}
use borrow.Author.Rules.{rules}
use Rattle.tables.proofs.Counts.{record_inside}
use Rattle.net.specs.Table.{transitions}
use Rattle.stores.proofs.Laid.{stored_none, stored_next, stored_all}
use Rattle.join.proofs.Records.{next_place}
use Rattle.join.proofs.put_records.Goals as goal

pub loop-t-init : goal.loop-t-init
loop-t-init c = stored_none _ _ _

pub put_record-requires : goal.put_record-requires
put_record-requires c =
    let l = c.loop-t in
    (c.requires.0, search rules, omega (arith, c.requires.1, l.invariant.size, record_inside 24 _ l.t c.loop-t-test.true))

pub loop-t-preserved : goal.loop-t-preserved
unfolding transitions
loop-t-preserved c =
    let l = c.loop-t in
    stored_next l.invariant _ (next_place _ _ _ l.t l.auto.t-end) c.put_record.ensures

pub returns : goal.returns
unfolding transitions
returns c = stored_all c.loop-t.invariant c.loop-t.auto.t-end c.loop-t-test.false
