-- `bitset::member` meets its contract: a set of 64 digits has no member from 64 on. Assumes nothing.
use mathlib.Core.Path.{refl, sym}
use native.Mathlib.Nat.{not-le_of_lt}
use Rattle.bitset.specs.Sets as sets
use Rattle.tables.proofs.Tests.{failed}
use Rattle.bitset.proofs.Relations.{member_lt}
use Rattle.bitset.proofs.member.Goals as goal

pub returns-then-k-ge64 : goal.returns-then-k-ge64
returns-then-k-ge64 c =
    sym
    (failed (sets.member c.args.s c.args.k)
    (λ p. not-le_of_lt (member_lt 64 c.args.s c.ranges.s.fits c.args.k p) c.if-k-ge64.true))

pub returns : goal.returns
unfolding sets.member
returns c = refl
