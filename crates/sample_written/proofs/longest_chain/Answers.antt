-- `sample_written::longest_chain` meets its contract. Assumes nothing.
use lib.ListN.{length-replicate}
use Prim.Native.Nat.{ℕ}
use Rattle.sample_written.proofs.Building.{chain_by}
use Rattle.sample_written.proofs.longest_chain.Goals as goal

pub returns : goal.returns
returns c = chain_by _ 255 (length-replicate {0} {A = ℕ} 2048 0) c.put_formula.ensures c.put_ands.ensures
