-- `desk::desk_label` meets its contract. Assumes nothing.
use mathlib.Core.Path.{ap}
use Rattle.category.specs.declared.LabelPlace.{LabelPlace}
use Rattle.category.specs.Labels.{bytes_at}
use Rattle.desk.proofs.desk_label.Goals as goal

pub returns : goal.returns
unfolding bytes_at
returns c = let e = c.place-place.ensures.place in
    record {
      place = (ap (λ (p : LabelPlace). p.file) e, ap (λ (p : LabelPlace). p.offset) e, ap (λ (p : LabelPlace). p.length) e);
      bytes = c.place-place.ensures.bytes;
    }
