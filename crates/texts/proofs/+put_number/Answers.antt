-- `texts::put_number` meets its contract: a digit, or the digits before the last and then the last. Assumes nothing.
use Prim.Native.Nat.{ℕ, ◌/◌, ◌<◌}
use mathlib.Core.Path.{subst}
use native.Mathlib.Nat.{div-lt_self, le_of_lt}
use native.Mathlib.Omega.{arith}
use Rattle.texts.proofs.Line.{number_one, number_more, room_one, room_more}
use Rattle.texts.proofs.+put_number.Goals as goal

pub bounds-line-at : goal.bounds-line-at
bounds-line-at t c = room_one _ _ _ c.if-n-lt10.true c.requires

pub returns-then-n-lt10 : goal.returns-then-n-lt10
returns-then-n-lt10 t c = number_one _ _ _ (room_one _ _ _ c.if-n-lt10.true c.requires) c.if-n-lt10.true

pub put_number-last-requires : goal.put_number-last-requires
put_number-last-requires t c = (
  subst (λ (j : ℕ). c.args.n / 10 < j) c.decreases (div-lt_self (omega arith) (omega arith)),
  le_of_lt (room_more c.args.at c.args.n 40 c.if-n-lt10.false c.requires),
)

pub bounds-line-last : goal.bounds-line-last
bounds-line-last t c =
    let h = room_more c.args.at c.args.n 40 c.if-n-lt10.false c.requires in
    omega (arith, c.put_number-last.ensures.next)

pub returns : goal.returns
returns t c = number_more _ c.if-n-lt10.false (bounds-line-last t c) c.put_number-last.ensures
