-- `category::CategoryRecord::text_byte` meets its contract. Assumes nothing.
use mathlib.Core.Path.{refl}
use Rattle.category.specs.Records.{text_byte}
use Rattle.category.proofs.CategoryRecord.text_byte.Goals as goal

pub returns : goal.returns
unfolding text_byte
returns c = refl
