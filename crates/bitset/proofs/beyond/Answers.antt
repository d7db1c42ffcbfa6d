-- `bitset::beyond` meets its contract: the complement of all below n, at 64 bits. Assumes nothing.
use mathlib.Core.Path.{sym, ap, ◌∙◌}
use Prim.Native.Nat.{ℕ, ◌-◌}
use native.Mathlib.Nat.{le_of_eq, le_trans}
use lib.Pow.{pow_pos}
use Rattle.bitset.proofs.Relations.{beyond_complement, beyond_none}
use Rattle.bitset.proofs.beyond.Goals as goal

pub returns-then-n-ge64 : goal.returns-then-n-ge64
returns-then-n-ge64 c = beyond_none 64 c.args.n c.if-n-ge64.true

pub overflow_sub-result : goal.overflow_sub-result
overflow_sub-result c = le_trans (pow_pos c.args.n) (le_of_eq (sym c.bit.ensures))

pub returns : goal.returns
returns c =
    ap (λ (x : ℕ). 18446744073709551615 - (x - 1)) c.bit.ensures ∙ beyond_complement 64 c.args.n c.if-n-ge64.false
