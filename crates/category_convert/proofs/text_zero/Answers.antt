-- `category_convert::text_zero` meets its contract. Assumes nothing.
use Rattle.category_convert.proofs.Zeros.{zero_words}
use Rattle.category_convert.proofs.text_zero.Goals as goal

pub returns : goal.returns
returns c = simp (c.u64_at-high.ensures, c.u64_at-middle.ensures, c.u64_at-low.ensures) (zero_words _ _)
