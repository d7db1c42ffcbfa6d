-- `category_convert::check_file` meets its contract. Assumes nothing.
use mathlib.Core.Path.{sym, ◌∙◌}
use Rattle.category_convert.proofs.Answers.{told_size, told_record, told_good}
use Rattle.category_convert.proofs.check_file.Goals as goal

pub returns-in_default : goal.returns-in_default
returns-in_default c = told_size _ (sym c.records.ensures ∙ c.in_default.is)

pub returns-in-Some-first_bad : goal.returns-in-Some-first_bad
returns-in-Some-first_bad c =
    let f = c.in-Some-first_bad.ensures in told_record _ _ (sym c.records.ensures ∙ c.in-Some.is) _ f.0 f.1

pub returns-in-None : goal.returns-in-None
returns-in-None c = told_good _ _ (sym c.records.ensures ∙ c.in-Some.is) c.in-None.ensures
