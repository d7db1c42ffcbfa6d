-- `pnml_scan::mark_opens` meets its contract. Assumes nothing.
use native.Mathlib.Omega.{arith}
use Rattle.pnml_scan.proofs.Marks.{short, by_bytes}
use Rattle.pnml_scan.proofs.mark_opens.Goals as goal

pub returns-then-text-at-lt2 : goal.returns-then-text-at-lt2
returns-then-text-at-lt2 c = short _ _ (omega arith)

pub returns : goal.returns
returns c = by_bytes _ _ (omega arith)
