-- `desk::desk_convert_categories` meets its contract. Assumes nothing.
use mathlib.Core.Path.{ap, sym, ◌∙◌}
use Rattle.category_borrowed.specs.Answer.{Answer}
use Rattle.category_convert.specs.Result.{answer_of}
use Rattle.category_borrowed.proofs.Worth.{converts}
use Rattle.category_borrowed.proofs.Granted.{granted_valid}
use Rattle.desk.proofs.desk_convert_categories.Goals as goal

pub returns : goal.returns
unfolding answer_of
returns c =
    let e = c.convert.ensures in
    let n = c.convert_numbers-said.ensures in
    let number = n.0 ∙ ap (λ (a : Answer). a.found.number) e in record {
      answer = (
        number,
        n.1 ∙ ap (λ (a : Answer). a.found.place) e,
        n.2 ∙ ap (λ (a : Answer). a.rewritten) e,
        ap (λ (a : Answer). a.room) e,
      );
      worth = λ z. converts _ (granted_valid _ _ (sym number ∙ z));
    }
