-- `desk::desk_check` meets its contract. Assumes nothing.
use mathlib.Core.Path.{sym, ap, ◌∙◌}
use Rattle.checker.specs.Outcomes.{Outcome}
use Rattle.checker.proofs.Numbered.{accepted}
use Rattle.desk.proofs.desk_check.Goals as goal

pub returns : goal.returns
returns c = let e = c.check.ensures.0 in
    let n = c.verdict_numbers-outcome.ensures in
    let number = n.0 ∙ ap (λ (o : Outcome). o.number) e in record {
      answer = (number, n.1 ∙ ap (λ (o : Outcome). o.place) e);
      claim = λ z. c.check.ensures.1 (ap (λ (o : Outcome). o.word) e ∙ accepted _ _ _ _ (sym number ∙ z));
    }
