-- `pnml_put::transitions` meets its contract. The invariant: the first t transitions are put. Assumes nothing.
use Prim.Native.Nat.{◌*◌}
use Rattle.pnml_put.specs.Put.{Fit, transitions_text, entry_at}
use Rattle.pnml_put.proofs.transitions.Given as goal

abbrev pub invariant-loop-t : goal.invariant-loop-t
invariant-loop-t l = Fit (104 * l.t) l.initial.room l.room l.at (transitions_text (entry_at l.net) l.t) l.next
