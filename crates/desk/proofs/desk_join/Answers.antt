-- `desk::desk_join` meets its contract. Assumes nothing.
use mathlib.Core.Path.{ap, sym, ◌∙◌}
use Rattle.join.specs.declared.Numbers.{Numbers}
use Rattle.join.specs.Answer.{Answer}
use Rattle.join.specs.Result.{answer_of}
use Rattle.join.proofs.Worth.{worth}
use Rattle.desk.proofs.desk_join.Goals as goal

pub returns : goal.returns
unfolding answer_of
returns c =
    let e = c.join.ensures in
    let n = c.join_numbers-joined.ensures in
    let number = ap (λ (x : Numbers). x.number) n ∙ ap (λ (a : Answer). a.found.number) e in record {
      answer = (
        number,
        ap (λ (x : Numbers). x.place) n ∙ ap (λ (a : Answer). a.found.place) e,
        ap (λ (x : Numbers). x.places) n ∙ ap (λ (a : Answer). a.places) e,
        ap (λ (x : Numbers). x.marking) n ∙ ap (λ (a : Answer). a.marking) e,
        ap (λ (x : Numbers). x.length) n ∙ ap (λ (a : Answer). a.length) e,
        ap (λ (a : Answer). a.room) e,
      );
      worth = λ z. worth _ _ _ (sym number ∙ z);
    }
