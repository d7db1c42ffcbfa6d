-- `category::part` meets its contract. Assumes nothing.
use mathlib.Core.Path.{sym, subst, ◌∙◌}
use Prim.Native.Nat.{ℕ, ◌<◌}
use Rattle.category.specs.Records.{count}
use Rattle.category.proofs.Sources.{offset_in, size_in}
use Rattle.category.proofs.part.Goals as goal

pub returns : goal.returns
returns c =
    let f = c.in_ok-found.ensures in
    let l = subst (λ (x : ℕ). x < count c.args.file.now) f.1.1 f.0 in
    let s = rw f.1.0 at c.text_length.ensures.0 in
    (f.0, (offset_in _ _ _ (sym f.1.1) l, s ∙ size_in _ _ _ (sym f.1.1) l))
