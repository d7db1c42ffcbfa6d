-- `category_convert::first_bad` meets its contract. Assumes nothing.
use mathlib.Core.Path.{◌≡◌}
use mathlib.Core.Bool.{Bool, true, false}
use Prim.Native.Nat.{ℕ}
use borrow.Author.Rules.{rules}
use borrow.Author.Tests.{tests}
use Rattle.std.proofs.lemmas.Iterator.{first_from_Range}
use Rattle.category_borrowed.specs.Files.{faulty_at}
use Rattle.category_convert.proofs.Prefix.{prefix_of, first_after}
use Rattle.category_convert.proofs.first_bad.Goals as goal

pub invariant_of-ordered : goal.invariant_of-ordered
invariant_of-ordered c = record { measured = prefix_of _ _ _ c.first_fall-fall.ensures c.unwrap_or.ensures }

pub returns : goal.returns
returns c =
    let f : ℕ → Bool = faulty_at c.args.file.now in
    rw c.or.ensures
    (first_after _ _ _ _ c.first_fall-fall.ensures c.unwrap_or.ensures
    (first_from_Range _ _ _ _ (λ i. f i ≡ true) (λ i. f i ≡ false) c.find.ensures.ran
    (λ x q k. search (rules, tests))
    (λ x q k. (search rules, search (rules, tests)))))
