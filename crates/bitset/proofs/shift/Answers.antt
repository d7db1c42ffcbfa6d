-- `bitset::shift` meets its contract. Assumes nothing.
use native.Mathlib.Nat.{mod-eq_of_lt}
use Rattle.bitset.specs.Sets.{shifted}
use Rattle.bitset.proofs.shift.Goals as goal

pub returns : goal.returns
unfolding shifted
returns c = mod-eq_of_lt c.requires.1
