-- `bitset::intersection` meets its contract: the code is the definition. Assumes nothing.
use mathlib.Core.Path.{refl}
use Rattle.bitset.specs.Sets.{intersection}
use Rattle.bitset.proofs.intersection.Goals as goal

pub returns : goal.returns
unfolding intersection
returns c = refl
