-- `pnml_put::place` meets its contract. Assumes nothing.
use native.Mathlib.Omega.{arith}
use Rattle.pnml_put.proofs.Puts.{join, recast}
use Rattle.pnml_put.proofs.Pieces.{place_text}
use Rattle.pnml_put.proofs.Fits.{fit, unfit, place_long}
use Rattle.pnml_put.proofs.place.Goals as goal

pub returns-then-room-at-lt71 : goal.returns-then-room-at-lt71
returns-then-room-at-lt71 c =
    unfit c.requires.0 c.if-room-at-lt71.true (place_long _ _ c.requires.1 c.requires.2)

pub returns : goal.returns
returns c =
    fit (omega (arith, c.if-room-at-lt71.false, c.requires))
    (recast (omega arith) (place_text _ _)
    (join c.word-at.ensures
    (join c.number-at.ensures
    (join c.word-at-2.ensures
    (join c.number-at-2.ensures
    c.word.ensures)))))
