-- `category::place` meets its contract. Assumes nothing.
use mathlib.Core.Path.{sym, ◌∙◌}
use Rattle.category.specs.Labels.{nowhere}
use Rattle.category.proofs.Places.{placed, placed_first, placed-second, placed-neither, placed_faulty}
use Rattle.category.proofs.Answers.{faultless_count, first_good, second_good}
use Rattle.category.proofs.place.Goals as goal

pub place_in-requires : goal.place_in-requires
place_in-requires c = faultless_count _ (first_good _ _ (sym c.both_good.ensures ∙ c.if-both_good.true))

pub returns-in-Some : goal.returns-in-Some
returns-in-Some c =
    let p = c.in-Some.ensures in
    let a = c.args in
    let e = p.1 ∙ placed_first a.translation.now a.house.now a.action (sym c.both_good.ensures ∙ c.if-both_good.true) p.0 in
    record { place = e; bytes = (placed a.translation.now a.house.now a.action _ e).1 }

pub place_in-requires-then-both_good : goal.place_in-requires-then-both_good
place_in-requires-then-both_good c =
    faultless_count _ (second_good _ _ (sym c.both_good.ensures ∙ c.if-both_good.true))

pub returns-in-Some-place_in : goal.returns-in-Some-place_in
returns-in-Some-place_in c =
    let p = c.in-Some-place_in.ensures in
    let n = c.in_default.ensures in
    let a = c.args in
    let e = p.1 ∙ placed-second a.translation.now a.house.now a.action (sym c.both_good.ensures ∙ c.if-both_good.true) n p.0 in
    record { place = e; bytes = (placed a.translation.now a.house.now a.action _ e).1 }

pub returns-in_default-place_in : goal.returns-in_default-place_in
unfolding nowhere
returns-in_default-place_in c =
    let a = c.args in
    let e = placed-neither a.translation.now a.house.now a.action (sym c.both_good.ensures ∙ c.if-both_good.true) c.in_default.ensures c.in_default-place_in.ensures in
    record { place = e; bytes = (placed a.translation.now a.house.now a.action _ e).1 }

pub returns-else-both_good : goal.returns-else-both_good
unfolding nowhere
returns-else-both_good c =
    let a = c.args in
    let e = placed_faulty a.translation.now a.house.now a.action (sym c.both_good.ensures ∙ c.if-both_good.false) in
    record { place = e; bytes = (placed a.translation.now a.house.now a.action _ e).1 }
