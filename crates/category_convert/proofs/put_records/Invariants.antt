-- `category_convert::put_records` meets its contract. The loop's invariant: the first i records are written. Assumes nothing.
use Rattle.category_convert.proofs.Written.{Written}
use Rattle.category_convert.proofs.put_records.Given as goal

abbrev pub invariant-loop-i : goal.invariant-loop-i
invariant-loop-i l = Written l.file l.initial.room l.room l.rewritten l.i
