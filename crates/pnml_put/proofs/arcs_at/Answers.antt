-- `pnml_put::arcs_at` meets its contract. Assumes nothing.
use mathlib.Core.Path.{refl}
use native.Mathlib.Omega.{arith}
use Rattle.pnml_put.proofs.Arcs.{join_arcs, recast_arcs}
use Rattle.pnml_put.proofs.arcs_at.Goals as goal

pub returns : goal.returns
returns c =
    recast_arcs (omega arith) refl (join_arcs c.arcs_by-spot.ensures c.arcs_by.ensures)
