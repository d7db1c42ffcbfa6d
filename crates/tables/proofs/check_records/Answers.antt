-- `tables::check_records` meets its contract. Assumes nothing.
use mathlib.Core.Path.{sym}
use native.Mathlib.Nat.{le_of_eq, lt_of_lt_of_le, lt_trans}
use Rattle.tables.proofs.Counts.{whole_sized, whole_count, refused_sized}
use Rattle.tables.proofs.Checks.{checked_size, checked_record, checked_good}
use Rattle.tables.proofs.check_records.Goals as goal

pub returns-in_default : goal.returns-in_default
returns-in_default g c = λ f test. checked_size _ _ _ f _ (refused_sized _ _ _ _ (sym c.in_default.ensures))

pub bad-requires : goal.bad-requires
bad-requires g c =
    let e = sym c.in-Some.ensures in
    c.requires.callable
    c.loop-t.t
    (whole_sized _ _ _ _ _ e)
    (lt_of_lt_of_le c.loop-t-test.true (le_of_eq (whole_count _ _ _ _ _ e)))

pub returns-then-bad : goal.returns-then-bad
returns-then-bad g c =
    λ f test.
    let e = sym c.in-Some.ensures in
    let l = lt_of_lt_of_le c.loop-t-test.true (le_of_eq (whole_count _ _ _ _ _ e)) in
    checked_record
    _
    _
    _
    f
    _
    (whole_sized _ _ _ _ _ e)
    c.loop-t.t
    l
    (sym (test c.loop-t.t _ l c.if-bad.ensures))
    (λ k h. sym (test k _ (lt_trans h l) (c.loop-t.invariant k h)))

pub returns : goal.returns
returns g c =
    λ f test.
    let e = sym c.in-Some.ensures in
    let n = whole_count _ _ _ _ _ e in
    checked_good
    _
    _
    _
    f
    _
    (whole_sized _ _ _ _ _ e)
    _
    n
    (λ k h. sym (test k _ (lt_of_lt_of_le h (le_of_eq n)) (c.loop-t.invariant k (lt_of_lt_of_le h c.loop-t-test.false))))
