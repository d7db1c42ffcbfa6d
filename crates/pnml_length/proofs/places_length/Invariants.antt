-- `pnml_length::places_length` meets its contract. The invariant: the first i places are counted. Assumes nothing.
use Prim.Native.Nat.{◌*◌}
use Rattle.pnml_net.specs.Nets.{mark_of}
use Rattle.pnml_put.specs.Put.{places_text}
use Rattle.pnml_length.specs.Count.{Count}
use Rattle.pnml_length.proofs.places_length.Given as goal

abbrev pub invariant-loop-i : goal.invariant-loop-i
invariant-loop-i l = Count (74 * l.i) (places_text (mark_of l.marking) l.i) l.length
