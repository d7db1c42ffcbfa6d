-- `category_convert::lends_from` meets its contract. Assumes nothing.
use mathlib.Core.Path.{◌≡◌, refl}
use mathlib.Core.Bool.{Bool, true, false}
use Prim.Native.Nat.{ℕ}
use borrow.Author.Rules.{rules}
use borrow.Author.Tests.{tests}
use Rattle.category_borrowed.specs.Files.{lends_at}
use Rattle.category_convert.proofs.Lowest.{any_from_Range}
use Rattle.category_convert.proofs.lends_from.Goals as goal

pub returns : goal.returns
returns c =
    let f : ℕ → Bool = lends_at c.args.file.now c.args.action in
    any_from_Range _ _ _ _ _ _ (λ i. f i ≡ true) (λ i. f i ≡ false) c.any.ensures.ran
    refl
    (λ x q k. search (rules, tests))
    (λ x q k. (search rules, search (rules, tests)))
