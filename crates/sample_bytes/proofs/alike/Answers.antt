-- `sample_bytes::alike` meets its contract. Assumes nothing.
use Rattle.std.proofs.Common.{◌≡◌, ◌∙◌, get_or, rules}
use borrow.Author.Tests.{tests}
use Rattle.std.proofs.lemmas.Iterator.{first_from_Range}
use Rattle.sample_bytes.proofs.Rooms.{alike_by}
use Rattle.sample_bytes.proofs.alike.Goals as goal

pub returns : goal.returns
returns c =
    let a = c.args.a.now in
    let b = c.args.b.now in
    c.unwrap_or.ensures ∙ alike_by a b _ _ c.min-most.ensures
    (first_from_Range _ _ _ _ (λ i. get_or a i 0 ≡ get_or b i 0 → ⊥) (λ i. get_or a i 0 ≡ get_or b i 0) c.find.ensures.ran
    (λ x q k. search (rules, tests))
    (λ x q k. (search rules, search (rules, tests))))
