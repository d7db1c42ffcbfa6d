-- `category_convert::first_fall` meets its contract. Assumes nothing.
use mathlib.Core.Path.{◌≡◌}
use mathlib.Core.Bool.{Bool, true, false, not}
use Prim.Native.Nat.{ℕ}
use borrow.Author.Rules.{rules}
use borrow.Author.Tests.{tests}
use Rattle.std.proofs.lemmas.Iterator.{first_from_Range}
use Rattle.category.specs.Faults.{ascends}
use Rattle.category.proofs.Scan.{searched_first}
use Rattle.category_convert.proofs.first_fall.Goals as goal

pub returns : goal.returns
returns c =
    let f : ℕ → Bool = λ i. not (ascends c.args.file.now i) in
    searched_first f _ _
    (first_from_Range _ _ _ _ (λ i. f i ≡ true) (λ i. f i ≡ false) c.find.ensures.ran
    (λ x q k. search (rules, tests))
    (λ x q k. (search rules, search (rules, tests))))
