-- `desk::desk_pnml_write` meets its contract. Assumes nothing.
use mathlib.Core.Path.{ap, ◌∙◌}
use Rattle.pnml_write.specs.Answer.{Answer}
use Rattle.desk.proofs.desk_pnml_write.Goals as goal

pub returns : goal.returns
returns c = let e = c.write.ensures in
    let n = c.written_numbers-written.ensures in
    (n.0 ∙ ap (λ (a : Answer). a.number) e, n.1 ∙ ap (λ (a : Answer). a.place) e, n.2 ∙ ap (λ (a : Answer). a.length) e, ap (λ (a : Answer). a.room) e)
