-- `pnml_scan::pre_open` meets its contract. Assumes nothing.
use mathlib.Core.Path.{refl}
use Rattle.pnml_shape.specs.Machine.{pre_open}
use Rattle.pnml_scan.proofs.pre_open.Goals as goal

pub returns : goal.returns
unfolding pre_open
returns c = refl
