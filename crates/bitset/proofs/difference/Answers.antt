-- `bitset::difference` meets its contract: the complement at 64 bits holds both sets. Assumes nothing.
use Rattle.bitset.proofs.Membership.{and_complement}
use Rattle.bitset.proofs.difference.Goals as goal

pub returns : goal.returns
returns c = and_complement 64 c.args.a c.args.b c.ranges.a.fits c.ranges.b.fits
