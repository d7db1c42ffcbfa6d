-- `bitset::collect` meets its contract: the set holds the numbers below k that pass. Assumes nothing.
use mathlib.Core.Path.{refl, ap, ap₂, ◌∙◌}
use mathlib.Core.Bool.{Bool}
use Prim.Native.Nat.{ℕ}
use native.Mathlib.Omega.{arith}
use Rattle.bitset.specs.Sets as sets
use Rattle.bitset.proofs.Relations.{collect_step}
use Rattle.bitset.proofs.collect.Goals as goal

pub loop-k-init : goal.loop-k-init
unfolding sets.collect
loop-k-init g c = λ f h. refl

pub loop-k-preserved : goal.loop-k-preserved
loop-k-preserved g c =
    λ f h.
    c.add-set.ensures
    ∙ ap₂ (λ (s : ℕ) (b : Bool). sets.add s c.loop-k.k b) (c.loop-k.invariant f h) (h c.loop-k.k _ c.loop-k-test.true c.test.ensures)
    ∙ collect_step f c.loop-k.k

pub returns : goal.returns
returns g c = λ f h. c.loop-k.invariant f h ∙ ap (sets.collect f) (omega (arith, c.loop-k-test.false))
