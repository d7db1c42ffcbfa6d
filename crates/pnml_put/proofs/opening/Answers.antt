-- `pnml_put::opening` meets its contract. Assumes nothing.
use native.Mathlib.Omega.{arith}
use Rattle.pnml_put.proofs.Puts.{join, recast}
use Rattle.pnml_put.proofs.Pieces.{opening_text}
use Rattle.pnml_put.proofs.Fits.{fit, unfit, opening_long}
use Rattle.pnml_put.proofs.opening.Goals as goal

pub returns-then-room-lt139 : goal.returns-then-room-lt139
returns-then-room-lt139 c = unfit (omega arith) (omega (arith, c.if-room-lt139.true)) opening_long

pub returns : goal.returns
returns c =
    fit (omega (arith, c.if-room-lt139.false))
    (recast (omega arith) opening_text (join c.word-at.ensures (join c.word-at-2.ensures c.word.ensures)))
