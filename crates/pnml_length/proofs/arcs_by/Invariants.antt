-- `pnml_length::arcs_by` meets its contract. The invariant: the arcs of the first p places are counted. Assumes nothing.
use mathlib.Core.Path.{◌≡◌}
use Prim.Native.Nat.{◌-◌, ◌/◌, ◌^◌, ◌≤◌}
use Rattle.pnml_net.specs.Nets.{arcs_by}
use Rattle.pnml_length.specs.Count.{CountArcs}
use Rattle.pnml_length.proofs.arcs_by.Given as goal

abbrev pub invariant-loop-p : goal.invariant-loop-p
invariant-loop-p l = (l.p ≤ l.places) × (l.rest ≡ l.set / 2 ^ l.p) × CountArcs l.p l.initial.sum.length l.initial.sum.arcs (arcs_by l.set l.t l.post l.p) l.sum.length l.sum.arcs

abbrev pub decreases-loop-p : goal.decreases-loop-p
decreases-loop-p l = l.places - l.p
