-- `sample_bytes::put_number` meets its contract. Assumes nothing.
use Rattle.std.proofs.Common.{◌≡◌, ◌+◌, ◌-◌, ◌∙◌, sym, arith}
use Rattle.sample_bytes.proofs.Stores.{next_digit, no_digit}
use Rattle.sample_bytes.proofs.put_number.Goals as goal

pub loop-k-preserved : goal.loop-k-preserved
loop-k-preserved c =
    let e : c.args.at + c.args.size - c.loop-k.k - 1 ≡ c.args.at + c.args.size - (c.loop-k.k + 1) = omega arith in
    let p = next_digit c.loop-k.table c.loop-k.k (c.args.at + c.args.size - c.loop-k.k) c.loop-k.rest (omega arith) in
    (rw e at p) ∙ c.loop-k.invariant

pub returns : goal.returns
returns c = sym (no_digit _ _ _ _ (omega arith)) ∙ c.loop-k.invariant
