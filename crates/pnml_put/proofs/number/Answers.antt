-- `pnml_put::number` meets its contract. The invariant: the digits before the last i are put. Assumes nothing.
use native.Mathlib.Omega.{arith}
use Rattle.pnml_put.proofs.Digits.{none_put, digit_put, digit_passed, last_digit, last_put}
use Rattle.pnml_put.proofs.number.Goals as goal

pub loop-i-init : goal.loop-i-init
loop-i-init c = let p = none_put _ _ _ _ c.requires.0 in (c.requires.2, p.0, p.1)

pub loop-i-preserved-then-n-unit : goal.loop-i-preserved-then-n-unit
loop-i-preserved-then-n-unit c =
    let i = c.loop-i.invariant in
    let p = digit_put _ _ (c.loop-i-test.true, c.loop-i.auto.i, c.requires.3) c.if-n-unit.true i.1 i.2 in
    (omega arith, p.0, p.1)

pub loop-i-preserved : goal.loop-i-preserved
loop-i-preserved c =
    let i = c.loop-i.invariant in
    let p = digit_passed _ _ (c.loop-i-test.true, c.loop-i.auto.i, c.requires.3) c.if-n-unit.false i.1 i.2 in
    (omega arith, p.0, p.1)

pub overflow_cast-room-2 : goal.overflow_cast-room-2
overflow_cast-room-2 c = omega (arith, last_digit c.args.n _ c.loop-i.invariant.0 c.loop-i-test.false c.loop-i.invariant.1)

pub overflow_add-room-2 : goal.overflow_add-room-2
overflow_add-room-2 c = omega (arith, last_digit c.args.n _ c.loop-i.invariant.0 c.loop-i-test.false c.loop-i.invariant.1)

pub bounds-room-next-2 : goal.bounds-room-next-2
bounds-room-next-2 c = omega (arith, c.loop-i.invariant.2.bound, c.requires)

pub returns : goal.returns
returns c =
    let i = c.loop-i.invariant in
    last_put _ i.0 c.loop-i-test.false c.requires.2 i.1 i.2
