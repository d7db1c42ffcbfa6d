-- `pnml_turn::read_elements` meets its contract. Assumes nothing.
use Prim.Native.Nat.{◌-◌}
use lib.ListN.{length}
use Rattle.pnml_turn.specs.Serving.{Read}
use Rattle.pnml_turn.proofs.read_elements.Given as goal

abbrev pub invariant-loop-next : goal.invariant-loop-next
invariant-loop-next l = Read l.text l.s l.kept.pre l.kept.post l.kept.action

abbrev pub decreases-loop-next : goal.decreases-loop-next
decreases-loop-next l = length l.text - l.s.at
