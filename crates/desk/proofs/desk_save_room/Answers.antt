-- `desk::desk_save_room` meets its contract. Assumes nothing.
use mathlib.Core.Path.{ap, sym, ◌∙◌}
use Rattle.compact.specs.declared.Numbers.{Numbers}
use Rattle.compact.specs.Result.{answer_of}
use Rattle.compact_tables.specs.Answer.{Answer}
use Rattle.desk.proofs.desk_save_room.Goals as goal

pub returns : goal.returns
unfolding answer_of
returns c =
    let e = c.compact.ensures in
    let n = c.compact_numbers-said.ensures in
    let number = ap (λ (x : Numbers). x.number) n in record {
      answer = (
        number ∙ ap (λ (a : Answer). a.found.number) e.answer,
        ap (λ (x : Numbers). x.place) n ∙ ap (λ (a : Answer). a.found.place) e.answer,
        ap (λ (x : Numbers). x.count) n ∙ ap (λ (a : Answer). a.count) e.answer,
        ap (λ (a : Answer). a.rooms) e.answer,
      );
      worth = λ z. e.worth (sym number ∙ z);
    }
