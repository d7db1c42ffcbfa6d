-- `sample_walks::fire_often` meets its contract. The invariant: the firings that are left lead from the walk where all lead from the first.
-- Assumes nothing.
use Prim.Native.Nat.{ℕ, suc, ◌≤◌, ◌<◌, ◌-◌, ◌+◌}
use mathlib.Core.Path.{◌≡◌, ◌∙◌, sym}
use native.Mathlib.Omega.{arith}
use Rattle.walk.specs.declared.Walk.{Walk}
use Rattle.walk.specs.Calls.{fire_walk}
use Rattle.walk.specs.History as history
use Rattle.sample_walks.proofs.Calling.{often}
use Rattle.sample_walks.proofs.fire_often.Goals as goal

-- before the first firing all are left
all_left : (w : Walk) (n : ℕ) → often w (n - 0) ≡ often w n
all_left w n = let d : n - 0 ≡ n = omega arith in rw d

-- one more firing, with what is left after it
one_more : (w next : Walk) (n i : ℕ) → i < n → next ≡ fire_walk w 0 → often next (n - (i + 1)) ≡ often w (n - i)
unfolding often history.fire_all
one_more w next n i h e = let d : n - i ≡ suc (n - (i + 1)) = omega arith in simp (d, e)

-- nothing is left
none_left : (w : Walk) (n i : ℕ) → n ≤ i → often w (n - i) ≡ w
unfolding often history.fire_all
none_left w n i b = let d : n - i ≡ 0 = omega arith in simp d

pub loop-init : goal.loop-init
loop-init c = all_left _ _

pub loop-preserved : goal.loop-preserved
loop-preserved c = one_more _ _ _ _ c.loop-test.true c.fire-outcome.ensures.1 ∙ c.loop.invariant

pub returns : goal.returns
unfolding often
returns c = sym (none_left _ _ _ c.loop-test.false) ∙ c.loop.invariant
