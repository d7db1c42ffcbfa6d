-- `sample_labels::fill` meets its contract. Assumes nothing.
use Rattle.std.proofs.Common.{refl}
use Rattle.sample_labels.specs.Files.{filled}
use Rattle.sample_labels.proofs.Filling.{filled_next}
use Rattle.sample_labels.proofs.fill.Goals as goal

pub loop-i-init : goal.loop-i-init
unfolding filled
loop-i-init c = refl

pub loop-i-preserved : goal.loop-i-preserved
loop-i-preserved c = filled_next _ _ _ _ c.loop-i.invariant (simp c.from.ensures at c.put_record.ensures)
