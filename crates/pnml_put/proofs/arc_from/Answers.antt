-- `pnml_put::arc_from` meets its contract. Assumes nothing.
use mathlib.Core.Path.{refl}
use native.Mathlib.Omega.{arith}
use Rattle.pnml_put.proofs.Puts.{join, recast}
use Rattle.pnml_put.proofs.Fits.{fit, unfit, arc_long}
use Rattle.pnml_put.proofs.arc_from.Goals as goal

pub returns-then-room-at-lt43 : goal.returns-then-room-at-lt43
returns-then-room-at-lt43 c =
    let r = c.requires in
    unfit r.0 c.if-room-at-lt43.true (arc_long _ _ _ _ _ r.1 r.2 r.3)

pub returns : goal.returns
returns c =
    fit (omega (arith, c.if-room-at-lt43.false, c.requires))
    (recast (omega arith) refl
    (join c.word-at.ensures
    (join c.number-at.ensures
    (join c.word-at-2.ensures
    (join c.node_name-at.ensures
    (join c.word-at-3.ensures
    (join c.node_name-at-2.ensures
    c.word.ensures)))))))
