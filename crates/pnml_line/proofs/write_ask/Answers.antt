-- `pnml_line::write_ask` meets its contract. Assumes nothing.
use mathlib.Core.Path.{ap, ◌∙◌}
use Prim.Native.Nat.{ℕ}
use Rattle.pnml_write.specs.Answer.{write_answer}
use Rattle.pnml_line.proofs.Answers.{ask_size, ask_side, ask-good}
use Rattle.pnml_line.proofs.write_ask.Goals as goal

pub returns-then-ask-ne-ASK : goal.returns-then-ask-ne-ASK
returns-then-ask-ne-ASK c = ask_size _ _ _ c.if-ask-ne-ASK.true

pub returns-then-a-gt1 : goal.returns-then-a-gt1
returns-then-a-gt1 c = ask_side _ _ _ _ c.ask_of-a.ensures c.if-a-gt1.true

pub returns : goal.returns
returns c =
    ask-good _ _ _ _ c.if-ask-ne-ASK.false c.ask_of-a.ensures c.if-a-gt1.false _
    (c.write.ensures ∙ ap (λ (p : ℕ). write_answer p c.ask_of-a.result.marking c.args.net.now c.args.room.now) c.from.ensures)
