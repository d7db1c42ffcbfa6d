-- `bitset::subset` meets its contract: the code is the definition. Assumes nothing.
use mathlib.Core.Path.{refl}
use Rattle.bitset.specs.Sets.{subset}
use Rattle.bitset.proofs.subset.Goals as goal

pub returns : goal.returns
unfolding subset
returns c = refl
