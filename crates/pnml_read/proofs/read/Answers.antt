-- `pnml_read::read` meets its contract. Assumes nothing.
use mathlib.Core.Path.{◌≡◌}
use Rattle.pnml_shape.specs.Theorem.{reading}
use Rattle.pnml_read.specs.Answer.{read_answer, answer_of}
use Rattle.pnml_read.proofs.Answers.{right, exit, opening_answer}
use Rattle.pnml_read.proofs.read.Goals as goal

pub returns-in_err-at : goal.returns-in_err-at
returns-in_err-at c =
    let room = c.args.room.now in
    record {
      answer = exit (λ r. answer_of r room ≡ read_answer (reading c.args.text.now) room) _ _ c.from_residual.ensures.1 (opening_answer _ _ c.in_err-at.ensures _);
      exact = right _;
    }

pub returns : goal.returns
returns c = record { answer = c.read_opened.ensures; exact = right _ }
