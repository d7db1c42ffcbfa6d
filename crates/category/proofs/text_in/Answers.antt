-- `category::text_in` meets its contract. Assumes nothing.
use mathlib.Core.Path.{refl}
use native.Mathlib.Omega.{arith}
use native.Mathlib.Nat.{add-sub_cancel_left}
use Rattle.category.specs.Labels.{text_of}
use Rattle.category.proofs.Sources.{part_inside}
use Rattle.category.proofs.text_in.Goals as goal

pub overflow_add-result : goal.overflow_add-result
overflow_add-result c = let p = c.in_ok-p.ensures in omega (arith, p.1.0, p.1.1, part_inside c.args.file.now c.args.action)

pub slice_bounds-result-end : goal.slice_bounds-result-end
slice_bounds-result-end c = let p = c.in_ok-p.ensures in omega (arith, p.1.0, p.1.1, part_inside c.args.file.now c.args.action)

pub returns : goal.returns
unfolding text_of
returns c =
    let p = c.in_ok-p.ensures in
    record { bytes = (p.0, simp (add-sub_cancel_left, p.1.0, p.1.1)); part = (refl, simp p.1.0) }
