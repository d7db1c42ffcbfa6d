-- `sample_written::write` meets its contract. Assumes nothing.
use mathlib.Core.Path.{ap, ◌∙◌}
use mathlib.Core.List.{List}
use Prim.Native.Nat.{ℕ}
use Rattle.tree_answer.specs.Answer.{write_answer}
use Rattle.sample_written.proofs.Rooms.{write_told}
use Rattle.sample_written.proofs.write.Goals as goal

pub returns : goal.returns
returns c =
    let args = c.args in
    let filling = c.fill in
    let filled-room = ap (λ (room : List ℕ). write_answer args.ask.now args.net.now args.formulas.now room) filling.ensures in
    write_told _ _ _ _ (c.write.ensures.0 ∙ filled-room) c.write_numbers.ensures
