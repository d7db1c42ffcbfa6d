-- `checker::admit/check_input` meets its contract. Assumes nothing.
use mathlib.Core.Path.{◌≡◌, refl, ap, ◌∙◌}
use Prim.Native.Nat.{ℕ}
use Rattle.std.proofs.Common.{Err}
use Rattle.std.proofs.lemmas.Result.{err_from_is_err_and}
use Rattle.tables.specs.declared.TableFault.{TableFault}
use Rattle.tables.specs.declared.TableFault.TheVariants.{Size, Record}
use Rattle.tables.specs.Checks.{told}
use Rattle.net.specs.Answer.{checked, table_fault}
use Rattle.net.proofs.Answers.{refusal_number}
use Rattle.pctl.specs.Table as pctl
use Rattle.checker.specs.Outcomes as outcomes
use Rattle.checker.proofs.Admitting.{ask_size, bad_ask, table_number, input_table, input_formulas, input_last}
use Rattle.checker.proofs.Scans.{told_number}
use Rattle.checker.proofs.admit.check_input.Goals as goal

told_checked : (f : TableFault) → told 4 5 f ≡ pctl.checked (Err f)
unfolding told pctl.checked
told_checked Size = refl
told_checked (Record r) = refl

pub returns-then-ask-ne-ASK : goal.returns-then-ask-ne-ASK
unfolding outcomes.input outcomes.fault_of outcomes.OwnNumber
returns-then-ask-ne-ASK c = (ask_size _ _ _ _ c.if-ask-ne-ASK.true, tt)

pub returns-then-not-a : goal.returns-then-not-a
unfolding outcomes.input outcomes.fault_of outcomes.OwnNumber
returns-then-not-a c = (bad_ask _ _ _ _ c.if-ask-ne-ASK.false _ c.ask_of-a.ensures c.if-not-a.true, tt)

pub returns-in_err-check_table : goal.returns-in_err-check_table
unfolding outcomes.input outcomes.fault_of outcomes.OwnNumber checked
returns-in_err-check_table c =
    let p = err_from_is_err_and c.from_residual.result c.from_residual.ensures.1 in
    let e = c.in_err-check_table.ensures ∙ ap (λ (n : ℕ). table_fault n c.args.net.now) c.from.ensures in
    rw (p.1, p.2)
    (input_table _ _ _ _ c.if-ask-ne-ASK.false _ c.ask_of-a.ensures c.if-not-a.false _ e (refusal_number _), table_number _ _ _ e (refusal_number _))

pub returns-in_err-check_formulas : goal.returns-in_err-check_formulas
unfolding outcomes.input outcomes.fault_of outcomes.OwnNumber checked
returns-in_err-check_formulas c =
    let p = err_from_is_err_and c.from_residual-in_err-check_formulas.result c.from_residual-in_err-check_formulas.ensures.1 in
    rw (p.1, p.2) (
      input_formulas _ _ _ _ c.if-ask-ne-ASK.false _ c.ask_of-a.ensures c.if-not-a.false
          (c.in_ok-check_table.ensures ∙ ap (λ (n : ℕ). table_fault n c.args.net.now) c.from.ensures) _
          (told_checked _ ∙ c.in_err-check_formulas.ensures) (told_number _),
      tt,
    )

pub returns : goal.returns
unfolding checked pctl.checked
returns c = (
  input_last _ _ _ _ c.if-ask-ne-ASK.false _ c.ask_of-a.ensures c.if-not-a.false
      (c.in_ok-check_table.ensures ∙ ap (λ (n : ℕ). table_fault n c.args.net.now) c.from.ensures)
      c.in_ok-check_formulas.ensures _ c.check_last.ensures.0,
  c.check_last.ensures.1,
)
