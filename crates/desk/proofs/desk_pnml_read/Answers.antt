-- `desk::desk_pnml_read` meets its contract. Assumes nothing.
use mathlib.Core.Path.{ap, ◌∙◌}
use Rattle.pnml_read.specs.Answer.{Answer}
use Rattle.desk.proofs.desk_pnml_read.Goals as goal

pub returns : goal.returns
returns c = let e = c.read.ensures.answer in
    let n = c.read_numbers-read.ensures in record {
      answer = (
        n.0 ∙ ap (λ (a : Answer). a.number) e,
        n.1 ∙ ap (λ (a : Answer). a.place) e,
        n.2 ∙ ap (λ (a : Answer). a.places) e,
        n.3 ∙ ap (λ (a : Answer). a.marking) e,
        n.4 ∙ ap (λ (a : Answer). a.length) e,
        ap (λ (a : Answer). a.room) e,
      );
      exact = c.read.ensures.exact;
    }
