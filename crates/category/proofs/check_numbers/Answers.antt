-- `category::check_numbers` meets its contract. Assumes nothing.
use mathlib.Core.Path.{ap, refl}
use Rattle.tables.specs.Faults.{Fault}
use Rattle.tables.specs.Checks.{answered}
use Rattle.category.specs.Faults.{checked}
use Rattle.category.proofs.Answers.{size_told, record_told}
use Rattle.category.proofs.check_numbers.Goals as goal

pub returns-in-Ok : goal.returns-in-Ok
unfolding checked answered
returns-in-Ok c = simp c.in-Ok.is (refl, refl)

pub returns-in-Err-Size : goal.returns-in-Err-Size
returns-in-Err-Size c =
    let e = size_told c.args.answer _ c.in-Err-Size.is (rw c.in-Err-Size.is at c.in-Err-Size.field-0-is) in
    (ap (λ (f : Fault). f.number) e, ap (λ (f : Fault). f.place) e)

pub returns-in-Err-Record : goal.returns-in-Err-Record
returns-in-Err-Record c =
    let e = record_told c.args.answer _ _ c.in-Err-Record.is (rw c.in-Err-Record.is at c.in-Err-Record.field-0-is) in
    (ap (λ (f : Fault). f.number) e, ap (λ (f : Fault). f.place) e)
