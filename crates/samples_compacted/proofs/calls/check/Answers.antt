-- `samples_compacted::calls::check` is safe: the line fits the buffer. Assumes nothing.
use mathlib.Core.Path.{refl}
use Rattle.texts.proofs.Line.{whole}
use Rattle.samples_compacted.proofs.calls.check.Goals as goal

pub slice_bounds-text-end : goal.slice_bounds-text-end
slice_bounds-text-end c = (whole refl c.check_line-size.ensures).0
