-- `sample_written::tree` meets its contract. Assumes nothing.
use mathlib.Core.Path.{sym}
use native.Mathlib.Omega.{arith}
use lib.Seq.{length-take-le}
use Rattle.sample_written.proofs.Rooms.{whole}
use Rattle.sample_written.proofs.tree.Goals as goal

pub returns-then-most-nodes : goal.returns-then-most-nodes
returns-then-most-nodes c = whole _ _ c.if-most-nodes.true

pub slice_bounds-result-end : goal.slice_bounds-result-end
slice_bounds-result-end c = sym (length-take-le _ _ (omega arith))
