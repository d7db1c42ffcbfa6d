-- `category_convert::put_record` meets its contract. Assumes nothing.
use mathlib.Core.Path.{sym, ◌∙◌}
use borrow.Author.Tests.{eq-eqb, ne_eqb}
use Rattle.category_borrowed.specs.Files.{borrows}
use Rattle.category_convert.proofs.Prefix.{prefix_valid}
use Rattle.category_convert.proofs.Bounds.{bound_source, bound_inside}
use Rattle.category_convert.proofs.Written.{lent_written, own_written}
use Rattle.category_convert.proofs.put_record.Goals as goal

pub invariant_of-ordered : goal.invariant_of-ordered
invariant_of-ordered c = record { measured = prefix_valid _ c.requires.0 }

pub put_with_text-requires : goal.put_with_text-requires
unfolding borrows
put_with_text-requires c =
    let n = c.new-record.ensures in
    let k = rw (n.0, n.1) at c.kind.ensures in
    let a = rw (n.0, n.1) at c.lender.ensures in
    (c.requires.1, bound_inside _ _ _ _ c.requires.0 c.requires.1 (eq-eqb _ 1 (sym k ∙ c.if-kind-ne1.false)) a c.lower_bound.ensures, c.requires.2)

pub returns-then-kind-ne1 : goal.returns-then-kind-ne1
unfolding borrows
returns-then-kind-ne1 c =
    let n = c.new-record.ensures in
    let k = rw (n.0, n.1) at c.kind.ensures in
    own_written c.args.file.now c.args.room.now c.args.i (ne_eqb _ 1 (λ e. c.if-kind-ne1.true (k ∙ e))) c.copy.ensures

pub returns : goal.returns
unfolding borrows
returns c =
    let n = c.new-record.ensures in
    let k = rw (n.0, n.1) at c.kind.ensures in
    let a = rw (n.0, n.1) at c.lender.ensures in
    let b = eq-eqb _ 1 (sym k ∙ c.if-kind-ne1.false) in
    lent_written
    c.args.file.now
    c.args.room.now
    c.args.i
    _
    b
    (bound_source _ _ _ _ c.requires.0 c.requires.1 b a c.lower_bound.ensures)
    c.put_with_text.ensures
