-- `category::CategoryRecord::kind` meets its contract. Assumes nothing.
use mathlib.Core.Path.{refl}
use Rattle.category.specs.Records.{kind_at}
use Rattle.category.proofs.CategoryRecord.kind.Goals as goal

pub returns : goal.returns
unfolding kind_at
returns c = refl
