-- The order of independent firings does not matter in a walk in any condition, while the count has room for all of them. Assumes nothing.
use mathlib.Core.Path.{◌≡◌, refl, sym, ap, ◌∙◌}
use mathlib.Core.Bool.{Bool, true, false, cond, ◌&&◌, and-false}
use mathlib.Core.Logic.{◌⊎◌, inl, inr}
use mathlib.Core.List.{List, [], ◌∷◌, ◌++◌}
use mathlib.Core.Option.{some}
use Prim.Native.Nat.{ℕ, suc, ◌+◌, ◌≤◌, ◌<◌}
use native.Mathlib.Omega.{arith}
use lib.ListN.{length}
use lib.Dec.{ltb, leb}
use borrow.Author.Tests.{le-ltb, leb-true, le-leb}
use Rattle.tables.proofs.Tests.{passed, if_true, if_false}
use Rattle.net.specs.Step.{enabled, fired, conflict}
use Rattle.net.specs.Swaps.{SwappedLead, HasSwaps}
use Rattle.net.specs.Swaps.Swapped.{swap}
use Rattle.net.proofs.Independence.{enabled_keeps, conflict_comm, fired_swap}
use Rattle.net.proofs.Swaps.{swapped_keeps, swapped_length, swapped_lead}
use Rattle.walk.specs.declared.Walk.{Walk}
use Rattle.walk.specs.State.{moved_to, loaded}
use Rattle.walk.specs.Calls.{answer_of, granted, fire_answer, fire_walk}
use Rattle.walk.specs.History.{fire_all, all_granted}
use Rattle.walk.specs.Swaps.{OrderFree, RefusedToo}
use Rattle.walk.proofs.Walks.{fire_unloaded}
use Rattle.walk.proofs.Conditions.{grants_where, fire_grants, fire_loaded}
use Rattle.walk.proofs.Histories.{granted_walk, fired_all, all-granted}

-- ---- one firing

-- the net stays, and the count goes up by one at most
fire_net : (w : Walk) (t : ℕ) → (fire_walk w t).net ≡ w.net
unfolding fire_walk moved_to
fire_net w t = by (granted (fire_answer w t))
  where
    by : (b : Bool) → (cond b (moved_to w (fired w.net w.present t) (w.count + 1)) w).net ≡ w.net
    by true = refl
    by false = refl

fire_count : (w : Walk) (t : ℕ) → (fire_walk w t).count ≤ w.count + 1
unfolding fire_walk moved_to
fire_count w t = by (granted (fire_answer w t))
  where
    by : (b : Bool) → (cond b (moved_to w (fired w.net w.present t) (w.count + 1)) w).count ≤ w.count + 1
    by true = omega arith
    by false = omega arith

-- ---- a walk that stays

unloaded_stays : (w : Walk) (t : ℕ) → loaded w ≡ false → fire_walk w t ≡ w
unloaded_stays w t h = sym (fire_unloaded w t h).1

-- where the transition is not enabled, or the count is full
refuses : (w : Walk) (t : ℕ) → (enabled w.net w.present t && ltb w.count 65535) ≡ false → fire_walk w t ≡ w
unfolding fire_walk
refuses w t h = if_false _ _ w (grants_where w t ∙ ap (λ b. loaded w && b) h ∙ and-false (loaded w))

disabled_stays : (w : Walk) (t : ℕ) → enabled w.net w.present t ≡ false → fire_walk w t ≡ w
disabled_stays w t e = refuses w t (ap (λ b. b && ltb w.count 65535) e)

pub full_stays : (w : Walk) (t : ℕ) → 65535 ≤ w.count → fire_walk w t ≡ w
full_stays w t l =
    let can = enabled w.net w.present t in
    refuses w t (ap (λ b. can && b) (le-ltb w.count 65535 l) ∙ and-false can)

-- what every firing leaves, any number of them leave
pub stays : (w : Walk) → ((t : ℕ) → fire_walk w t ≡ w) → (ts : List ℕ) → fire_all w ts ≡ w
unfolding fire_all
stays w h [] = refl
stays w h (t ∷ ts) = ap (λ v. fire_all v ts) (h t) ∙ stays w h ts

-- ---- two firings

module _ (w : Walk) (h : loaded w ≡ true) (l : w.count + 2 ≤ 65535) where
  can : ℕ → Bool
  can t = enabled w.net w.present t

  -- after one
  moved : ℕ → Walk
  moved t = moved_to w (fired w.net w.present t) (w.count + 1)

  grants : (t : ℕ) → can t ≡ true → granted (fire_answer w t) ≡ true
  unfolding can
  grants t e = let room : w.count < 65535 = omega arith in fire_grants w t h e room

  first : (t : ℕ) → can t ≡ true → fire_walk w t ≡ moved t
  unfolding moved
  first t e = granted_walk w t (grants t e)

  moved_loaded : (t : ℕ) → can t ≡ true → loaded (moved t) ≡ true
  moved_loaded t e = ap loaded (sym (first t e)) ∙ fire_loaded w t (grants t e)

  module _ (t u : ℕ) (i : conflict w.net t u ≡ false) where
    -- both
    second : can t ≡ true → can u ≡ true
        → fire_walk (fire_walk w t) u ≡ moved_to w (fired w.net (fired w.net w.present t) u) (w.count + 1 + 1)
    unfolding can moved moved_to
    second e f =
        let room : w.count + 1 < 65535 = omega arith in
        ap (λ v. fire_walk v u) (first t e)
        ∙ granted_walk (moved t) u (fire_grants (moved t) u (moved_loaded t e) (enabled_keeps w.net w.present t u i ∙ f) room)

    -- the first alone
    first_alone : can t ≡ true → can u ≡ false → fire_walk (fire_walk w t) u ≡ moved t
    unfolding can moved moved_to
    first_alone e f =
        ap (λ v. fire_walk v u) (first t e) ∙ disabled_stays (moved t) u (enabled_keeps w.net w.present t u i ∙ f)

  -- the second alone, or none
  without_first : (t u : ℕ) → can t ≡ false → fire_walk (fire_walk w t) u ≡ fire_walk w u
  unfolding can
  without_first t u e = ap (λ v. fire_walk v u) (disabled_stays w t e)

  loaded_swap : (t u : ℕ) → conflict w.net t u ≡ false → fire_walk (fire_walk w t) u ≡ fire_walk (fire_walk w u) t
  unfolding can
  loaded_swap t u i = by (can t) (can u) refl refl
    where
      j : conflict w.net u t ≡ false
      j = conflict_comm w.net u t ∙ i

      by : (a b : Bool) → can t ≡ a → can u ≡ b → fire_walk (fire_walk w t) u ≡ fire_walk (fire_walk w u) t
      by true true e f =
          second t u i e f
          ∙ ap (λ (x : ℕ). moved_to w x (w.count + 1 + 1)) (fired_swap w.net w.present t u i)
          ∙ sym (second u t j f e)
      by true false e f = first_alone t u i e f ∙ sym (first t e) ∙ sym (without_first u t f)
      by false true e f = without_first t u e ∙ first u f ∙ sym (first_alone u t j f e)
      by false false e f = without_first t u e ∙ disabled_stays w u f ∙ sym (disabled_stays w t e) ∙ sym (without_first u t f)

-- in a walk in any condition
swap_fires : (w : Walk) (t u : ℕ) → conflict w.net t u ≡ false → w.count + 2 ≤ 65535 → fire_walk (fire_walk w t) u ≡ fire_walk (fire_walk w u) t
swap_fires w t u i l = by (passed (loaded w))
  where
    by : (loaded w ≡ true) ⊎ (loaded w ≡ false) → fire_walk (fire_walk w t) u ≡ fire_walk (fire_walk w u) t
    by (inl h) = loaded_swap w h l t u i
    by (inr h) = both t u ∙ sym (both u t)
      where
        both : (x y : ℕ) → fire_walk (fire_walk w x) y ≡ w
        both x y = ap (λ v. fire_walk v y) (unloaded_stays w x h) ∙ unloaded_stays w y h

-- ---- one swap anywhere in a list

swap_walk : (front : List ℕ) (t u : ℕ) (rest : List ℕ) (w : Walk) → conflict w.net t u ≡ false → w.count + length (front ++ (t ∷ u ∷ rest)) ≤ 65535
    → fire_all w (front ++ (t ∷ u ∷ rest)) ≡ fire_all w (front ++ (u ∷ t ∷ rest))
unfolding fire_all
swap_walk [] t u rest w i l =
    let sum : w.count + suc (suc (length rest)) ≤ 65535 = l in
    let room : w.count + 2 ≤ 65535 = omega arith in
    ap (λ v. fire_all v rest) (swap_fires w t u i room)
swap_walk (v ∷ front) t u rest w i l =
    let sum : w.count + suc (length (front ++ (t ∷ u ∷ rest))) ≤ 65535 = l in
    let most = fire_count w v in
    let room : (fire_walk w v).count + length (front ++ (t ∷ u ∷ rest)) ≤ 65535 = omega arith in
    swap_walk front t u rest (fire_walk w v) (ap (λ N. conflict N t u) (fire_net w v) ∙ i) room

-- ---- any number of swaps

module _ (w : Walk) where
  -- the count has room for so many firings
  room : ℕ → Bool
  room n = leb (w.count + n) 65535

  -- the walk after a list that it has room for, otherwise the walk itself
  fitting : List ℕ → Walk
  fitting ts = cond (room (length ts)) (fire_all w ts) w

  swap_fitting : HasSwaps w.net (λ xs ys. fitting xs ≡ fitting ys)
  unfolding room fitting
  swap_fitting front t u rest i = by (passed (room (length ts)))
    where
      ts : List ℕ
      ts = front ++ (t ∷ u ∷ rest)

      us : List ℕ
      us = front ++ (u ∷ t ∷ rest)

      long : room (length us) ≡ room (length ts)
      long = ap room (sym (swapped_length w.net ts us (swap front t u rest i)))

      by : (room (length ts) ≡ true) ⊎ (room (length ts) ≡ false) → fitting ts ≡ fitting us
      by (inl p) =
          if_true _ _ w p ∙ swap_walk front t u rest w i (leb-true (w.count + length ts) 65535 p) ∙ sym (if_true _ _ w (long ∙ p))
      by (inr p) = if_false _ _ w p ∙ sym (if_false _ _ w (long ∙ p))

pub refused_too : RefusedToo
unfolding RefusedToo room fitting
refused_too w ts us s l =
    let fits = le-leb (w.count + length ts) 65535 l in
    sym (if_true _ _ w fits)
    ∙ swapped_keeps w.net (fitting w) (swap_fitting w) ts us s
    ∙ if_true _ _ w (ap (room w) (sym (swapped_length w.net ts us s)) ∙ fits)

pub order_free : OrderFree
unfolding OrderFree RefusedToo SwappedLead answer_of
order_free w ts us e s q l =
    record {
      granted = λ h. (whole h, all-granted w e us h (sym (swapped_lead w.net w.present ts us s) ∙ q) short);
      count = λ h. (fired_all w ts (whole h)).0;
      present = λ h. ends (sym (fired_all w ts (whole h)).1 ∙ q);
      unloaded = λ h. (
        λ t. sym (fire_unloaded w t h).0,
        stays w (λ t. unloaded_stays w t h) ts,
        stays w (λ t. unloaded_stays w t h) us,
      );
      whole = refused_too w ts us s l;
    }
  where
    whole : loaded w ≡ true → all_granted w ts ≡ true
    whole h = all-granted w e ts h q l

    short : w.count + length us ≤ 65535
    short = let same = swapped_length w.net ts us s in omega (arith, same, l)

    ends : some (fire_all w ts).present ≡ some e → (fire_all w ts).present ≡ e
    ends p = cc
