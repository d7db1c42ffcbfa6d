-- `category::label` meets its contract. Assumes nothing.
use mathlib.Core.Path.{sym, ◌∙◌}
use Rattle.category.proofs.Places.{placed_first, placed-second, placed-neither, placed_faulty, label_first, label_second, label_none}
use Rattle.category.proofs.label.Goals as goal
use Rattle.category.proofs.label.Goals.{then-both_good+in_default+in_default-text_in, else-both_good}

pub returns-in-Some : goal.returns-in-Some
returns-in-Some c =
    let t = c.in-Some.ensures in
    let r = label_first _ _ _ _ _ _ _
    (placed_first _ _ _ (sym c.both_good.ensures ∙ c.if-both_good.true) t.bytes.0)
    _
    _
    _
    t.bytes.1
    t.part in
    record { bytes = r.0; part = r.1 }

pub returns-in-Some-text_in : goal.returns-in-Some-text_in
returns-in-Some-text_in c =
    let t = c.in_default.ensures in
    let h = c.in-Some-text_in.ensures in
    let r = label_second _ _ _ _ _ _ _
    (placed-second _ _ _ (sym c.both_good.ensures ∙ c.if-both_good.true) t.bytes h.bytes.0)
    _
    _
    _
    h.bytes.1
    h.part in
    record { bytes = r.0; part = r.1 }

pub returns : goal.returns
returns c =
    let e = c.both_good.ensures in
    let a = c.args in
    let r = label_none _ _ _ _ _ _ _
    (elim c.if-both_good.branch [
      | then-both_good+in_default+in_default-text_in w ↦ placed-neither a.translation.now a.house.now a.action (sym e ∙ w.if-both_good.true) w.in_default.ensures.bytes w.in_default-text_in.ensures.bytes
      | else-both_good w ↦ placed_faulty a.translation.now a.house.now a.action (sym e ∙ w.if-both_good.false)
    ]) in
    record { bytes = r.0; part = r.1 }
