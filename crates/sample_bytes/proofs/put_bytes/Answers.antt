-- `sample_bytes::put_bytes` meets its contract. Assumes nothing.
use Rattle.std.proofs.Common.{rules}
use Rattle.sample_bytes.proofs.Stores.{copied}
use Rattle.sample_bytes.proofs.put_bytes.Goals as goal

pub returns : goal.returns
returns c = rw c.copy_from_slice.ensures.after (copied c.args.table.now c.args.part.now c.args.at c.min-from.result c.min-size.result (search rules) (search rules))
