-- `pnml_put::places` meets its contract. The invariant: the first i places are put. Assumes nothing.
use Prim.Native.Nat.{◌*◌}
use Rattle.pnml_net.specs.Nets.{mark_of}
use Rattle.pnml_put.specs.Put.{Fit, places_text}
use Rattle.pnml_put.proofs.places.Given as goal

abbrev pub invariant-loop-i : goal.invariant-loop-i
invariant-loop-i l = Fit (71 * l.i) l.initial.room l.room l.at (places_text (mark_of l.marking) l.i) l.next
