-- `pnml_length::arcs_length` meets its contract. The invariant: the arcs of the first t transitions are counted. Assumes nothing.
use Prim.Native.Nat.{◌*◌}
use Rattle.pnml_put.specs.Put.{table_arcs}
use Rattle.pnml_length.specs.Count.{CountArcs}
use Rattle.pnml_length.proofs.arcs_length.Given as goal

abbrev pub invariant-loop-t : goal.invariant-loop-t
invariant-loop-t l = CountArcs (128 * l.t) 0 0 (table_arcs l.net l.places l.t) l.sum.length l.sum.arcs
