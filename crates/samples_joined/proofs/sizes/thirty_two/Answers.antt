-- `samples_joined::sizes::thirty_two` meets its contract. Assumes nothing.
use native.Mathlib.Omega.{arith}
use lib.ListN.{length-take}
use Rattle.samples_joined.proofs.sizes.thirty_two.Goals as goal

pub slice_bounds-table-end : goal.slice_bounds-table-end
slice_bounds-table-end c = simp length-take (omega arith)
