-- `category_convert::convert_numbers` meets its contract. Assumes nothing.
use mathlib.Core.Path.{ap, refl, ◌∙◌}
use Rattle.tables.specs.Faults.{Fault}
use Rattle.category_convert.specs.Result.{found_of, rewritten_of}
use Rattle.category_convert.proofs.Answers.{table_told, short_told}
use Rattle.category_convert.proofs.convert_numbers.Goals as goal

pub returns-in-Ok : goal.returns-in-Ok
unfolding found_of rewritten_of
returns-in-Ok c = simp c.in-Ok.is (refl, refl, refl)

pub returns-in-Err-Table : goal.returns-in-Err-Table
returns-in-Err-Table c =
    let t = table_told c.args.answer _ c.in-Err-Table.is _ (rw c.in-Err-Table.is at c.in-Err-Table.field-0-is) in
    let n = c.check_numbers-found.ensures in
    rw c.refused.ensures (n.0 ∙ ap (λ (f : Fault). f.number) t.0, n.1 ∙ ap (λ (f : Fault). f.place) t.0, t.1)

pub returns-in-Err-Short : goal.returns-in-Err-Short
returns-in-Err-Short c =
    let t = short_told c.args.answer _ c.in-Err-Short.is (rw c.in-Err-Short.is at c.in-Err-Short.field-0-is) in
    rw c.refused-in-Err-Short.ensures (ap (λ (f : Fault). f.number) t.0, ap (λ (f : Fault). f.place) t.0, t.1)
