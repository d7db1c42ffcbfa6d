-- `category::check_file` meets its contract. Assumes nothing.
use mathlib.Core.Path.{ap, sym, ◌∙◌}
use borrow.Author.Rules.{rules}
use lib.ListN.{length}
use Rattle.std.proofs.lemmas.Result.{err_from_is_err_and}
use Rattle.tables.specs.Checks.{answered}
use Rattle.tables.proofs.Checks.{checked_fault}
use Rattle.category.specs.Faults.{checked, record_bad, file_fault}
use Rattle.category.proofs.check_file.Goals as goal

pub returns-in_err-check_records : goal.returns-in_err-check_records
unfolding checked answered file_fault
returns-in_err-check_records c =
    let file = c.args.file.now in
    let p = err_from_is_err_and c.from_residual.result c.from_residual.ensures.1 in
    let e = c.check_records.ensures (record_bad file) (λ t b l h. search rules) in
    rw (p.1, p.2) (ap (answered 9 10) (sym c.in_err-check_records.was ∙ e) ∙ checked_fault 32 0 2000 (record_bad file) (length file) 9 10)

pub returns : goal.returns
unfolding checked answered file_fault
returns c =
    let file = c.args.file.now in
    let e = c.check_records.ensures (record_bad file) (λ t b l h. search rules) in
    ap (answered 9 10) (sym c.in_ok-check_records.was ∙ e) ∙ checked_fault 32 0 2000 (record_bad file) (length file) 9 10
