-- `pnml_put::arc` meets its contract. Assumes nothing.
use Rattle.pnml_put.proofs.Pieces.{pre_text, post_text}
use Rattle.pnml_put.proofs.Fits.{fit_recast}
use Rattle.pnml_put.proofs.Arcs.{arc_by}
use native.Mathlib.Omega.{arith}
use Rattle.pnml_put.proofs.arc.Goals as goal

pub returns-then-post : goal.returns-then-post
returns-then-post c = arc_by _ _ _ c.if-post.true (fit_recast (omega arith) (post_text _ _ _) c.arc_from.ensures)

pub returns : goal.returns
returns c = arc_by _ _ _ c.if-post.false (fit_recast (omega arith) (pre_text _ _ _) c.arc_from-2.ensures)
