-- `bitset::disjoint` meets its contract: the code is the definition. Assumes nothing.
use mathlib.Core.Path.{refl}
use Rattle.bitset.specs.Sets.{disjoint}
use Rattle.bitset.proofs.disjoint.Goals as goal

pub returns : goal.returns
unfolding disjoint
returns c = refl
