-- `pctl::check_formulas` meets its contract. Assumes nothing.
use mathlib.Core.Path.{◌≡◌, refl, sym, ap, ◌∙◌}
use borrow.Author.Rules.{rules}
use Rattle.std.proofs.Common.{Err}
use lib.ListN.{length}
use Rattle.std.proofs.lemmas.Result.{err_from_is_err_and}
use Rattle.tables.specs.declared.TableFault.{TableFault}
use Rattle.tables.specs.declared.TableFault.TheVariants.{Size, Record}
use Rattle.tables.specs.Checks.{answered, told}
use Rattle.tables.proofs.Checks.{checked_fault}
use Rattle.pctl.specs.Table.{checked, formulas_fault, formula_bad}
use Rattle.pctl.proofs.check_formulas.Goals as goal

told_checked : (f : TableFault) → checked (Err f) ≡ told 4 5 f
unfolding checked told
told_checked Size = refl
told_checked (Record r) = refl

pub returns-in_err-check_records : goal.returns-in_err-check_records
unfolding answered formulas_fault
returns-in_err-check_records c =
    let F = c.args.formulas.now in
    let p = err_from_is_err_and c.from_residual.result c.from_residual.ensures.1 in
    let e = c.check_records.ensures (formula_bad F) (λ t b l h. search rules) in
    rw (p.1, p.2) (told_checked _ ∙ ap (answered 4 5) (sym c.in_err-check_records.was ∙ e) ∙ checked_fault 8 1 256 (formula_bad F) (length F) 4 5)

pub returns : goal.returns
unfolding checked answered formulas_fault
returns c =
    let F = c.args.formulas.now in
    let e = c.check_records.ensures (formula_bad F) (λ t b l h. search rules) in
    ap (answered 4 5) (sym c.in_ok-check_records.was ∙ e) ∙ checked_fault 8 1 256 (formula_bad F) (length F) 4 5
