-- `pnml_scan::literal` meets its contract. Assumes nothing.
use native.Mathlib.Omega.{arith}
use Rattle.pnml_scan.proofs.Scan.{there_word}
use Rattle.pnml_scan.proofs.literal.Goals as goal

pub overflow_add-result : goal.overflow_add-result
overflow_add-result c = omega (arith, (c.there.ensures c.if-there.true).inside)

pub returns-then-there : goal.returns-then-there
returns-then-there c = there_word _ _ _ (c.there.ensures c.if-there.true)
