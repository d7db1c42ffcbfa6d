-- `category_convert::lends_at` meets its contract. Assumes nothing.
use Rattle.std.proofs.Common.{sym, ap, ◌∙◌, eqb, ◌&&◌}
use Rattle.category.specs.Records.{kind_at}
use Rattle.category_borrowed.specs.Files.{lends_at}
use Rattle.category_convert.proofs.lends_at.Goals as goal

pub returns-then-has_action : goal.returns-then-has_action
unfolding lends_at
returns-then-has_action c = let h = sym c.has_action.ensures ∙ c.if-has_action.true in simp (h, c.kind.ensures)

pub returns-else-has_action : goal.returns-else-has_action
unfolding lends_at
returns-else-has_action c =
    let h = sym c.has_action.ensures ∙ c.if-has_action.false in
    c.if-has_action.false ∙ sym (ap (λ b. b && eqb (kind_at c.args.lender.now.file.now c.args.lender.now.number) 0) h)
