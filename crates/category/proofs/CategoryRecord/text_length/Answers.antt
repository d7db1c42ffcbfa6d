-- `category::CategoryRecord::text_length` meets its contract. Assumes nothing.
use mathlib.Core.Path.{◌≡◌, ◌∙◌, sym, subst}
use mathlib.Core.Bool.{Bool, true, false}
use Prim.Native.Nat.{ℕ, ◌≤◌}
use lib.Dec.{eqb}
use borrow.Author.Rules.{rules}
use borrow.Author.Tests.{tests}
use Rattle.std.proofs.lemmas.Iterator.{first_from_Range}
use Rattle.category.specs.Records.{text_byte, text_length}
use Rattle.category.proofs.Scan.{first_or, searched_first}
use Rattle.category.proofs.Sources.{text_length_le}
use Rattle.category.proofs.CategoryRecord.text_length.Goals as goal

pub returns : goal.returns
unfolding text_length
returns c =
    let f : ℕ → Bool = λ j. eqb (text_byte c.args.self.now.file.now c.args.self.now.number j) 0 in
    let e = first_or f 24 _ (searched_first f 24 _
    (first_from_Range _ _ _ _ (λ j. f j ≡ true) (λ j. f j ≡ false) c.find.ensures.ran
    (λ x q k. search (rules, tests))
    (λ x q k. (search rules, search (rules, tests))))) in
    (c.unwrap_or.ensures ∙ e, subst (λ (x : ℕ). x ≤ 24) (sym (c.unwrap_or.ensures ∙ e)) (text_length_le _ _))
