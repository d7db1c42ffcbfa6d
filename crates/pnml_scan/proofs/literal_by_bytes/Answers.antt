-- `pnml_scan::literal_by_bytes` meets its contract. The invariant: the first i bytes of the word are there. Assumes nothing.
use Rattle.pnml_scan.proofs.Scan.{spelled_more, spelled_short, spelled_other, spelled_all}
use Rattle.pnml_scan.proofs.literal_by_bytes.Goals as goal

pub returns-then-k-text : goal.returns-then-k-text
returns-then-k-text c = spelled_short _ _ _ _ c.loop-i.invariant c.loop-i-test.true c.if-k-text.true

pub returns-then-text-k : goal.returns-then-text-k
returns-then-text-k c =
    spelled_other _ _ _ _ c.loop-i.invariant c.loop-i-test.true c.if-k-text.false c.if-text-k.true

pub loop-i-preserved : goal.loop-i-preserved
loop-i-preserved c =
    spelled_more _ _ _ _ c.loop-i.invariant c.loop-i-test.true c.if-k-text.false c.if-text-k.false

pub returns : goal.returns
returns c = spelled_all _ _ _ _ c.loop-i.invariant c.loop-i-test.false
