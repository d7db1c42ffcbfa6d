-- `category_convert::CategoryFile::lends` meets its contract. Assumes nothing.
use mathlib.Core.Path.{sym, ◌∙◌}
use native.Mathlib.Omega.{arith}
use Rattle.tables.proofs.Below.{some_is}
use Rattle.category_borrowed.specs.Files.{lends, lends_at}
use Rattle.category_convert.proofs.Prefix.{prefix_rising, prefix_le}
use Rattle.category_convert.proofs.Bounds.{none_lends}
use Rattle.category_convert.proofs.Lowest.{some_from}
use Rattle.category_convert.proofs.CategoryFile.lends.Goals as goal
use Rattle.category_convert.proofs.CategoryFile.lends.Goals.{else-at-self-via-then-at-self+else-lends_at, else-at-self-via-else-at-self}

pub new-requires : goal.new-requires
new-requires c = omega (arith, prefix_le _ _ c.args.self.now.measured)

pub returns-then-lends_at : goal.returns-then-lends_at
unfolding lends
returns-then-lends_at c =
    let n = c.new.ensures in
    let h = rw (n.0, n.1) at c.lends_at.ensures in
    sym
    (some_is
    (lends_at _ _)
    _
    c.lower_bound-at.result
    (omega (arith, prefix_le _ _ c.args.self.now.measured))
    (sym h ∙ c.if-lends_at.true))

pub returns : goal.returns
unfolding lends
returns c =
    let m = c.args.self.now.measured in
    some_from _ _ _ _ c.lends_from.ensures
    (none_lends
    (prefix_rising _ _ m)
    c.lower_bound-at.ensures
    (λ l. elim c.else-at-self.branch [
      | else-at-self-via-then-at-self+else-lends_at w ↦ let n = w.new.ensures in let h = rw (n.0, n.1) at w.lends_at.ensures in sym h ∙ w.if-lends_at.false
      | else-at-self-via-else-at-self w ↦ absurd (omega arith)
    ]))
