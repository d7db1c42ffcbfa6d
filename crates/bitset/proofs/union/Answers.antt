-- `bitset::union` meets its contract: the code is the definition. Assumes nothing.
use mathlib.Core.Path.{refl}
use Rattle.bitset.specs.Sets.{union}
use Rattle.bitset.proofs.union.Goals as goal

pub returns : goal.returns
unfolding union
returns c = refl
