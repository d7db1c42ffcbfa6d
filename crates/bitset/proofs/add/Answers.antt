-- `bitset::add` meets its contract. Assumes nothing.
use mathlib.Core.Path.{sym, ap, ◌∙◌}
use mathlib.Core.Bool.{cond}
use Prim.Native.Nat.{◌^◌}
use Rattle.bitset.specs.Sets as sets
use Rattle.bitset.proofs.add.Goals as goal

pub returns-then-on : goal.returns-then-on
unfolding sets.add
returns-then-on c =
    c.union.ensures
    ∙ ap (sets.union c.args.s) c.bit.ensures
    ∙ sym (ap (λ b. cond b (sets.union c.args.s (2 ^ c.args.k)) c.args.s) c.if-on.true)

pub returns : goal.returns
unfolding sets.add
returns c = sym (ap (λ b. cond b (sets.union c.args.s (2 ^ c.args.k)) c.args.s) c.if-on.false)
