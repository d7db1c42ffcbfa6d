-- `pnml::tell_written` is safe and ends: the text lies within its room. Assumes nothing.
use mathlib.Core.Path.{sym}
use lib.Seq.{length-take-le}
use Rattle.pnml_line.proofs.Answers.{written_inside}
use Rattle.pnml.proofs.tell_written.Goals as goal

pub slice_bounds-room-end : goal.slice_bounds-room-end
slice_bounds-room-end c = written_inside _ _ _ _ c.write_ask-w.ensures c.in-Ok.is

pub slice_bounds-write_all-end : goal.slice_bounds-write_all-end
slice_bounds-write_all-end c = sym (length-take-le _ _ (written_inside _ _ _ _ c.write_ask-w.ensures c.in-Ok.is))
