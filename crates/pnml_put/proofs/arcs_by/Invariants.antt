-- `pnml_put::arcs_by` meets its contract. The invariant: the arcs of the first p places are put. Assumes nothing.
use mathlib.Core.Path.{◌≡◌}
use Prim.Native.Nat.{◌-◌, ◌/◌, ◌^◌, ◌≤◌}
use Rattle.pnml_net.specs.Nets.{arcs_by}
use Rattle.pnml_put.specs.Put.{FitArcs}
use Rattle.pnml_put.proofs.arcs_by.Given as goal

abbrev pub invariant-loop-p : goal.invariant-loop-p
invariant-loop-p l = (l.p ≤ l.places) × (l.rest ≡ l.set / 2 ^ l.p) × FitArcs l.p l.initial.room l.room l.fn.spot.at l.fn.spot.arcs (arcs_by l.set l.t l.post l.p) l.next.at l.next.arcs

abbrev pub decreases-loop-p : goal.decreases-loop-p
decreases-loop-p l = l.places - l.p
