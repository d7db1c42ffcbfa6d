-- `bitset::within` meets its contract. Assumes nothing.
use mathlib.Core.Path.{sym}
use Rattle.bitset.proofs.Relations.{within_wide, within_shift}
use Rattle.bitset.proofs.within.Goals as goal

pub returns-then-n-ge64 : goal.returns-then-n-ge64
returns-then-n-ge64 c = sym (within_wide 64 c.args.n c.args.s c.ranges.s.fits c.if-n-ge64.true)

pub returns : goal.returns
returns c = within_shift c.args.n c.args.s
