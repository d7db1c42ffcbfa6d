-- `desk::desk_write_tree` meets its contract. Assumes nothing.
use mathlib.Core.Path.{ap, ◌∙◌}
use Rattle.tree_answer.specs.Answer.{Answer}
use Rattle.tree_answer.specs.Theorem.{WrittenIsAccepted}
use Rattle.tree_answer.proofs.Accepted.{written_is_accepted}
use Rattle.desk.proofs.desk_write_tree.Goals as goal

pub returns : goal.returns
unfolding WrittenIsAccepted
returns c =
    let e = c.write.ensures.0 in
    let n = c.write_numbers-told.ensures in record {
      answer = (
        n.0 ∙ ap (λ (a : Answer). a.found.number) e,
        n.1 ∙ ap (λ (a : Answer). a.found.place) e,
        n.2 ∙ ap (λ (a : Answer). a.side) e,
        n.3 ∙ ap (λ (a : Answer). a.nodes) e,
        ap (λ (a : Answer). a.room) e,
      );
      worth = written_is_accepted _ _ _ _;
    }
