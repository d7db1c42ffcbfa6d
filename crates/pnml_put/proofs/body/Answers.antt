-- `pnml_put::body` meets its contract. Assumes nothing.
use mathlib.Core.Path.{refl}
use native.Mathlib.Omega.{arith}
use Rattle.pnml_put.proofs.Fits.{fit_join, fit_recast}
use Rattle.pnml_put.proofs.body.Goals as goal

pub returns : goal.returns
returns c =
    fit_recast (omega arith) refl
    (fit_join c.opening-at.ensures (fit_join c.places-at.ensures (fit_join c.transitions-at.ensures c.all_arcs.ensures)))
