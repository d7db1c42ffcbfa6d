-- `desk::desk_categories` meets its contract. Assumes nothing.
use mathlib.Core.Path.{ap, ◌∙◌}
use Rattle.tables.specs.Faults.{Fault}
use Rattle.desk.proofs.desk_categories.Goals as goal

pub returns : goal.returns
returns c = let e = c.check.ensures in
    let n = c.check_numbers-found.ensures in
    (n.0 ∙ ap (λ (f : Fault). f.number) e, n.1 ∙ ap (λ (f : Fault). f.place) e)
