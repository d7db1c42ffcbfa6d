-- `category::place_in` meets its contract. Assumes nothing.
use native.Mathlib.Omega.{arith}
use Rattle.category.specs.Labels.{place_in}
use Rattle.category.proofs.Sources.{part_inside}
use Rattle.category.proofs.place_in.Goals as goal

pub overflow_cast-result : goal.overflow_cast-result
overflow_cast-result c =
    let p = c.in_ok-p.ensures in omega (arith, p.1.0, part_inside c.args.file.now c.args.action)

pub overflow_cast-result-2 : goal.overflow_cast-result-2
overflow_cast-result-2 c =
    let p = c.in_ok-p.ensures in omega (arith, p.1.1, part_inside c.args.file.now c.args.action)

pub returns : goal.returns
unfolding place_in
returns c = let p = c.in_ok-p.ensures in (p.0, simp (p.1.0, p.1.1))
