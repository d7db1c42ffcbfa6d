-- Why the order of independent firings is free only while the count has room for all: with less room each list of firings ends at the count 65,535,
-- but the markings may differ. Assumes nothing.
use mathlib.Core.Path.{◌≡◌, refl, ap, ◌∙◌}
use mathlib.Core.Bool.{true, false}
use mathlib.Core.Logic.{◌⊎◌, inl, inr}
use mathlib.Core.List.{[], ◌∷◌}
use Prim.Native.Nat.{ℕ, suc, ◌+◌, ◌≤◌}
use native.Mathlib.Omega.{arith}
use lib.ListN.{length, replicate}
use lib.Dec.{ltb}
use borrow.Author.Tests.{ltb-true, ltb-false, leb-true}
use Rattle.bitset.specs.Sets as sets
use Rattle.tables.specs.Below as below
use Rattle.tables.proofs.Tests.{passed}
use Rattle.net.specs.declared.Net.{Net}
use Rattle.net.specs.Step as step
use Rattle.net.specs.Table.{places_good}
use Rattle.net.specs.Sequence.{after}
use Rattle.net.specs.Swaps.Swapped.{swap}
use Rattle.walk.specs.declared.Walk.{Walk}
use Rattle.walk.specs.State as state
use Rattle.walk.specs.State.{started_at, moved_to, loaded}
use Rattle.walk.specs.Calls as calls
use Rattle.walk.specs.Calls.{fire_walk}
use Rattle.walk.specs.History.{fire_all}
use Rattle.walk.specs.Swaps.{Leads, CountFull, RoomNeeded}
use Rattle.walk.proofs.Walks.{loaded_sound}
use Rattle.walk.proofs.Histories.{first_granted}
use Rattle.walk.proofs.Swaps.{full_stays, stays}

pub count_full : CountFull
unfolding CountFull fire_all
count_full w [] e h q l =
    let sum : 65535 ≤ w.count + 0 = l in
    let most = leb-true w.count 65535 (loaded_sound w h).count in
    omega arith
count_full w (t ∷ ts) e h q l = by (passed (ltb w.count 65535)) (count_full (fire_walk w t) ts e)
  where
    sum : 65535 ≤ w.count + suc (length ts)
    sum = l

    by : (ltb w.count 65535 ≡ true) ⊎ (ltb w.count 65535 ≡ false)
        → (loaded (fire_walk w t) ≡ true → Leads (fire_walk w t) ts e → 65535 ≤ (fire_walk w t).count + length ts → (fire_all (fire_walk w t) ts).count ≡ 65535)
        → (fire_all (fire_walk w t) ts).count ≡ 65535
    by (inl p) rest =
        let r = first_granted w e t ts h q (ltb-true w.count 65535 p) in
        let least : 65535 ≤ (fire_walk w t).count + length ts = omega (arith, sum, r.3) in
        rest r.1 r.2 least
    by (inr p) rest =
        let least = ltb-false w.count 65535 p in
        let most = leb-true w.count 65535 (loaded_sound w h).count in
        let full : w.count ≡ 65535 = omega arith in
        ap (λ v. v.count) (stays w (λ u. full_stays w u least) (t ∷ ts)) ∙ full

-- R without t2, at marking 3 after 65,534 firings: one more of the two is granted, the first
almost : Walk
almost = moved_to (started_at N 3) 3 65534
  where
    N : Net
    N = record { places = 3; transitions = 2; pre = 1 ∷ 2 ∷ replicate 62 0; post = 1 ∷ 4 ∷ replicate 62 0; action = replicate 64 0; optional = 0 }

pub room_needed : RoomNeeded
unfolding RoomNeeded almost sets.member sets.subset sets.disjoint sets.difference sets.union sets.within below.every_below step.enabled_by step.fired_by step.conflict_by step.enabled step.fired step.touched step.conflict places_good state.started_at state.moved_to state.sets_within state.transitions_good state.net_good state.state_good state.loaded calls.granted calls.fire_answer calls.fire_walk after fire_all
room_needed = (almost, 0 ∷ 1 ∷ [], 1 ∷ 0 ∷ [], 5, refl, swap [] 0 1 [] refl, refl, refl, λ p. distinct p)
  where
    distinct : ◌≡◌ {A = ℕ} 3 5 → ⊥
    distinct p = omega (arith, p)
