-- `pnml_quick::there` meets its contract. The invariant: the bytes up to 8 n are there. Assumes nothing.
use Prim.Native.Nat.{◌*◌}
use Rattle.pnml_quick.specs.Serving.{From}
use Rattle.pnml_quick.proofs.there.Given as goal

abbrev pub invariant-loop-n : goal.invariant-loop-n
invariant-loop-n l = From l.text l.at l.word 0 (8 * l.n)
