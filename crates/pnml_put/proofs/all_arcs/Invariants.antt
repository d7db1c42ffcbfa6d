-- `pnml_put::all_arcs` meets its contract. The invariant: the arcs of the first t transitions are put. Assumes nothing.
use Prim.Native.Nat.{◌*◌}
use Rattle.pnml_put.specs.Put.{FitArcs, table_arcs}
use Rattle.pnml_put.proofs.all_arcs.Given as goal

abbrev pub invariant-loop-t : goal.invariant-loop-t
invariant-loop-t l = FitArcs (128 * l.t) l.initial.room l.room l.at 0 (table_arcs l.net l.places l.t) l.spot.at l.spot.arcs
