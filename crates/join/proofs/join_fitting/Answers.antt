-- `join::join_fitting` meets its contract. Assumes nothing.
use borrow.Author.Rules.{rules}
use native.Mathlib.Omega.{arith}
use Rattle.join.specs.Serving.{marked_by}
use Rattle.join.proofs.Fitting.{few_places, fits, marking_fits}
use Rattle.join.proofs.Answers.{refused_short, joins}
use Rattle.join.proofs.join_fitting.Goals as goal

pub returns-then-room-length : goal.returns-then-room-length
returns-then-room-length c = refused_short _ _ _ c.requires.0 c.requires.1 c.requires.2 c.if-room-length.true

pub shift-requires : goal.shift-requires
shift-requires c =
    let f = marked_by c.args.first in
    let s = marked_by c.args.second in
    marking_fits f s c.requires.0 c.requires.1 c.requires.2

pub put_records-requires : goal.put_records-requires
put_records-requires c =
    let f = marked_by c.args.first in
    let s = marked_by c.args.second in
    (fits f s c.requires.0 c.requires.1 c.requires.2, search rules)

pub overflow_add-places : goal.overflow_add-places
overflow_add-places c =
    let f = marked_by c.args.first in
    let s = marked_by c.args.second in
    record { fits = omega (arith, few_places f s c.requires.0 c.requires.1) }

pub returns : goal.returns
returns c =
    joins _ _ _ c.requires.0 c.requires.1 c.requires.2 c.if-room-length.false
    c.shift.ensures c.union-marking.ensures c.copy.ensures c.put_records.ensures
