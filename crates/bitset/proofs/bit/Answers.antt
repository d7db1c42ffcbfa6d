-- `bitset::bit` meets its contract. Assumes nothing.
use Rattle.bitset.proofs.Relations.{bit_shift}
use Rattle.bitset.proofs.bit.Goals as goal

pub returns : goal.returns
returns c = bit_shift 64 c.args.k c.requires
