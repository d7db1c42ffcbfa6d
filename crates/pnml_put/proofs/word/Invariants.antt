-- `pnml_put::word` meets its contract. The invariant: the first i bytes of the word are put. Assumes nothing.
use Prim.Native.Nat.{◌+◌}
use lib.ListN.{take}
use Rattle.pnml_put.specs.Put.{Put}
use Rattle.pnml_put.proofs.word.Given as goal

abbrev pub invariant-loop-i : goal.invariant-loop-i
invariant-loop-i l = Put l.i l.initial.room l.room l.at (take l.i l.word) (l.at + l.i)
