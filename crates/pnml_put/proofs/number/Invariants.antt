-- `pnml_put::number` meets its contract. The invariant: the digits before the last i are put. Assumes nothing.
use mathlib.Core.Path.{◌≡◌}
use Prim.Native.Nat.{◌-◌, ◌/◌, ◌%◌, ◌^◌, ◌≤◌}
use Rattle.pnml_put.specs.Put.{Put}
use Rattle.pnml_put.proofs.Digits.{leading}
use Rattle.pnml_put.proofs.number.Given as goal

abbrev pub invariant-loop-i : goal.invariant-loop-i
invariant-loop-i l =
    (1 ≤ l.i) × (l.rest ≡ l.n % 10 ^ l.i) × Put (l.most - l.i) l.initial.room l.room l.at (leading (l.n / 10 ^ l.i)) l.next
