-- `walk::sets_within` meets its contract. Assumes nothing.
use mathlib.Core.Path.{refl, ◌∙◌}
use native.Mathlib.Omega.{arith}
use borrow.Author.Rules.{rules}
use borrow.Author.Tests.{tests}
use Rattle.std.proofs.lemmas.Iterator.{YieldsList-from_range}
use Rattle.std.proofs.lemmas.Iterator.Search.{all_from_yields_List}
use Rattle.walk.specs.State.{sets_within}
use Rattle.walk.proofs.Ranges.{all_below}
use Rattle.walk.proofs.sets_within.Goals as goal

pub returns : goal.returns
unfolding sets_within
returns c =
    let N = c.args.net.now in
    all_from_yields_List (sets_within N) _ _ _ c.all.ensures.ran (YieldsList-from_range 0 N.transitions N.transitions refl (omega arith)) (λ x b q k. search (rules, tests))
    ∙ all_below _ _
