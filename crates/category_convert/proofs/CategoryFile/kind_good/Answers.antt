-- `category_convert::CategoryFile::kind_good` meets its contract. Assumes nothing.
use mathlib.Core.Path.{sym, ◌∙◌}
use borrow.Author.Tests.{eq-eqb, ne_eqb}
use Rattle.category_borrowed.specs.Files.{borrows, borrow_good, kind_good}
use Rattle.category_convert.proofs.CategoryFile.kind_good.Goals as goal

pub returns-then-kind-eq0 : goal.returns-then-kind-eq0
unfolding kind_good borrows
returns-then-kind-eq0 c =
    let n = c.new-record.ensures in
    let k = rw (n.0, n.1) at c.kind-kind.ensures in
    simp (c.own_good.ensures, n.0, n.1, eq-eqb _ _ (sym k ∙ c.if-kind-eq0.true))

pub returns-then-kind-eq1 : goal.returns-then-kind-eq1
unfolding kind_good borrows borrow_good
returns-then-kind-eq1 c =
    let n = c.new-record.ensures in
    let k = rw (n.0, n.1) at c.kind-kind.ensures in
    simp (c.text_zero.ensures, c.lends.ensures, c.lender.ensures, n.0, n.1, sym k, ne_eqb _ _ c.if-kind-eq0.false, eq-eqb _ _ c.if-kind-eq1.true)

pub returns : goal.returns
unfolding kind_good borrows
returns c =
    let n = c.new-record.ensures in
    let k = rw (n.0, n.1) at c.kind-kind.ensures in
    simp (sym k, ne_eqb _ _ c.if-kind-eq0.false, ne_eqb _ _ c.if-kind-eq1.false)
