-- `join::join_loaded` meets its contract. Assumes nothing.
use native.Mathlib.Omega.{arith}
use Rattle.net.specs.Table.{transitions}
use Rattle.join.specs.Serving.{marked_by}
use Rattle.join.proofs.Fitting.{few_places, few_records, size_fits, size_large}
use Rattle.join.proofs.Answers.{refused-large}
use Rattle.join.proofs.join_loaded.Goals as goal

pub overflow_add-transitions : goal.overflow_add-transitions
overflow_add-transitions c =
    let f = marked_by c.args.first in
    let s = marked_by c.args.second in
    record { fits = omega (arith, few_records f c.requires.0, few_records s c.requires.1) }

pub overflow_add-first : goal.overflow_add-first
overflow_add-first c =
    let f = marked_by c.args.first in
    let s = marked_by c.args.second in
    record { fits = omega (arith, few_places f s c.requires.0 c.requires.1) }

pub join_fitting-requires : goal.join_fitting-requires
unfolding transitions
join_fitting-requires c =
    let f = marked_by c.args.first in
    let s = marked_by c.args.second in
    (c.requires.0, c.requires.1, size_fits f s c.if-first-second-gt64.false c.if-transitions-gt64.false)

pub returns-then-first-second-gt64 : goal.returns-then-first-second-gt64
unfolding transitions
returns-then-first-second-gt64 c =
    let f = marked_by c.args.first in
    let s = marked_by c.args.second in
    refused-large f s _ c.requires.0 c.requires.1 (size_large f s c.then-first-second-gt64.either)
