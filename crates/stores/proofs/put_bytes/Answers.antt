-- `stores::put_bytes` meets its contract. Assumes nothing.
use mathlib.Core.Path.{◌≡◌, sym, ap₂, ◌∙◌}
use Prim.Native.Nat.{ℕ, ◌+◌, ◌-◌, ◌/◌, ◌%◌}
use native.Mathlib.Omega.{arith}
use lib.ListN.{set}
use lib.Seq.{sets}
use Rattle.stores.specs.Low.{low_bytes}
use Rattle.stores.proofs.Stores.{next_byte, no_byte}
use Rattle.stores.proofs.put_bytes.Goals as goal

pub loop-i-init : goal.loop-i-init
loop-i-init c =
    let a : c.args.at + 0 ≡ c.args.at = omega arith in
    let b : c.args.n - 0 ≡ c.args.n = omega arith in
    ap₂ (λ (p j : ℕ). sets c.args.room.now p (low_bytes j c.args.x)) a b

pub loop-i-preserved : goal.loop-i-preserved
loop-i-preserved c =
    let at = c.args.at + c.loop-i.i in
    let left = c.args.n - c.loop-i.i in
    let p : c.args.at + (c.loop-i.i + 1) ≡ at + 1 = omega arith in
    let d : c.args.n - (c.loop-i.i + 1) ≡ left - 1 = omega arith in
    ap₂ (λ (i j : ℕ). sets (set c.loop-i.room at (c.loop-i.v % 256)) i (low_bytes j (c.loop-i.v / 256))) p d
    ∙ next_byte _ _ _ _ (omega (arith, c.loop-i-test.true))
    ∙ c.loop-i.invariant

pub returns : goal.returns
returns c = sym (no_byte _ _ _ _ (omega (arith, c.loop-i-test.false))) ∙ c.loop-i.invariant
