-- `pnml_length::transitions_length` meets its contract. The invariant: the first t transitions are counted. Assumes nothing.
use Prim.Native.Nat.{◌*◌}
use Rattle.pnml_put.specs.Put.{transitions_text, entry_at}
use Rattle.pnml_length.specs.Count.{Count}
use Rattle.pnml_length.proofs.transitions_length.Given as goal

abbrev pub invariant-loop-t : goal.invariant-loop-t
invariant-loop-t l = Count (107 * l.t) (transitions_text (entry_at l.net) l.t) l.length
