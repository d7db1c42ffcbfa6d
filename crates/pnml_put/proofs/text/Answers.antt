-- `pnml_put::text` meets its contract. Assumes nothing.
use mathlib.Core.Path.{refl}
use native.Mathlib.Nat.{div-mul-le_self}
use native.Mathlib.Omega.{arith}
use Rattle.texts.specs.Text.{bytes}
use Rattle.net.specs.Table.{transitions}
use Rattle.pnml_put.proofs.Fits.{whole_unfit, whole_fit, whole_recast}
use Rattle.pnml_put.proofs.Texts.{count_most, net-text}
use Rattle.pnml_put.proofs.text.Goals as goal

pub body-at-requires : goal.body-at-requires
unfolding transitions
body-at-requires c =
    (c.requires.0, count_most _ c.requires.1, div-mul-le_self _ 24)

pub returns-then-room-at-lt20 : goal.returns-then-room-at-lt20
unfolding transitions
returns-then-room-at-lt20 c =
    whole_recast (omega arith) (net-text _ c.requires.1 _ _) (whole_unfit (bytes "</page></net></pnml>") refl c.if-room-at-lt20.true c.body-at.ensures)

pub returns : goal.returns
unfolding transitions
returns c =
    whole_recast (omega arith) (net-text _ c.requires.1 _ _) (whole_fit refl c.body-at.ensures c.word.ensures)
