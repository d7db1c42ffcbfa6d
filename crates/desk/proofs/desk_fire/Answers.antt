-- `desk::desk_fire` meets its contract. Assumes nothing.
use mathlib.Core.Path.{ap, ◌∙◌}
use Rattle.net.specs.Answer.{Answer}
use Rattle.desk.proofs.desk_fire.Goals as goal

pub returns : goal.returns
returns c =
    let e = c.fire.ensures in
    let n = c.firing_numbers-fired.ensures in (
      n.0 ∙ ap (λ (a : Answer). a.found.number) e,
      n.1 ∙ ap (λ (a : Answer). a.found.place) e,
      n.2 ∙ ap (λ (a : Answer). a.marking) e,
      n.3 ∙ ap (λ (a : Answer). a.missing) e,
      n.4 ∙ ap (λ (a : Answer). a.occupied) e,
    )
