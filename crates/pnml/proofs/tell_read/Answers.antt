-- `pnml::tell_read` is safe and ends: the records lie within their room, and the line fits the buffer. Assumes nothing.
use native.Mathlib.Omega.{arith}
use mathlib.Core.Path.{refl, sym}
use lib.Seq.{length-take-le}
use Rattle.texts.proofs.Line.{whole}
use Rattle.pnml_line.proofs.Answers.{found_bounded}
use Rattle.pnml.proofs.tell_read.Goals as goal

pub keep-requires : goal.keep-requires
keep-requires c = let r = c.read-r in omega (arith, (found_bounded _ _ _ r.ensures.answer).1)

pub read_line-size-requires : goal.read_line-size-requires
read_line-size-requires c = (found_bounded _ _ _ c.read-r.ensures.answer).0

pub slice_bounds-line-end : goal.slice_bounds-line-end
slice_bounds-line-end c = (whole refl c.read_line-size.ensures).0

pub slice_bounds-write_all-end : goal.slice_bounds-write_all-end
slice_bounds-write_all-end c = sym (length-take-le _ _ (whole refl c.read_line-size.ensures).0)
