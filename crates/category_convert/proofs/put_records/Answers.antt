-- `category_convert::put_records` meets its contract. The loop's invariant: the first i records are written. Assumes nothing.
use native.Mathlib.Omega.{arith}
use borrow.Author.Rules.{rules}
use Rattle.category_convert.proofs.Written.{written_none, written_next, written_all}
use Rattle.category_convert.proofs.put_records.Goals as goal
use Rattle.category_convert.proofs.put_records.Goals.{then-put_record, else-put_record}

pub loop-i-init : goal.loop-i-init
loop-i-init c = written_none _ _

pub put_record-requires : goal.put_record-requires
put_record-requires c = (c.requires.0, search rules, omega (arith, c.loop-i.invariant.records.size))

pub overflow_add-rewritten : goal.overflow_add-rewritten
overflow_add-rewritten c = record { fits = omega (arith, c.loop-i.invariant.most) }

pub loop-i-preserved : goal.loop-i-preserved
loop-i-preserved c =
    let e = c.put_record.ensures in
    let next = written_next c.requires.0 c.loop-i.invariant c.put_record.result e.1 (search rules) e.0 in
    elim c.if-put_record.branch [
      | then-put_record w ↦ next (rw w.if-put_record.true w.rewritten-is)
      | else-put_record w ↦ next (rw w.if-put_record.false (omega (arith, w.rewritten-is)))
    ]

pub returns : goal.returns
returns c = written_all c.requires.0 c.loop-i.invariant (search rules) c.requires.1
