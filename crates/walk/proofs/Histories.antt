-- After any sequence of calls, the count of a walk is the number of firings granted since the last granted load or reset, its present marking is
-- where these lead from the start, in the net of the last granted load, and its stored set is that of the transitions enabled there, so that firing
-- is granted for its members, while the count has room. Of a walk in any condition: firing answers 41 with the sets that say why, a granted call
-- leaves the set of the enabled transitions, and nothing else depends on the stored number. Assumes nothing.
use mathlib.Core.Path.{◌≡◌, refl, sym, ap, subst, ◌∙◌}
use mathlib.Core.Bool.{Bool, true, false, cond, ◌&&◌}
use mathlib.Core.Logic.{◌⊎◌, inl, inr}
use mathlib.Core.List.{List, [], ◌∷◌, ◌++◌}
use mathlib.Core.Option.{none, some}
use Prim.Native.Nat.{ℕ, suc, ◌+◌, ◌≤◌, ◌<◌, zero-le}
use native.Mathlib.Nat.{add-zero, zero-add}
use native.Mathlib.Omega.{arith}
use lib.ListN.{length, length-append}
use borrow.Author.Tests.{ltb-true}
use Rattle.tables.proofs.Tests.{and_left, and_right, and_intro, if_true, if_false}
use lib.Dec.{ltb}
use Rattle.bitset.specs.Sets.{member, collect}
use Rattle.net.specs.Step.{enabled, missing, occupied, fired, next}
use Rattle.net.specs.Table.{net_of}
use Rattle.net.specs.Answer.{fault, Answer, refuse, grant, disabled}
use Rattle.net.specs.Sequence.{after}
use Rattle.net.specs.Why.{Explained}
use Rattle.net.proofs.Loops.{next_member, enabled_out}
use Rattle.net.proofs.Runs.{after_first, after_more}
use Rattle.net.proofs.Why.{other_explained, disabled_explained}
use Rattle.walk.specs.declared.Walk.{Walk}
use Rattle.walk.specs.State.{started_at, moved_to, empty, storing, marked, StoresNext, sets_within, net_good, state_good, loaded}
use Rattle.walk.specs.Calls.{granted, load_answer, load_walk, fire_answer, fire_walk, loaded_answer, reset_walk, read_marking, read_count, read_next}
use Rattle.walk.specs.History.{Call, answered, called, run, Log, no_calls, logged, since, Follows, OffersSteps, FireExplained, LeavesNext, AnyStored, AnyMarks, fire_all, all_granted}
use Rattle.walk.specs.History.Call.{load, fire, reset}
use Rattle.walk.proofs.Walks.{read_granted}
use Rattle.walk.proofs.Conditions.{new_unloaded, grants_where, fire_needs, fire_grants, load_loaded, fire_loaded, run_loaded}

-- ---- one call

module _ (w : Walk) (p : Log) (f : Follows w p) where
  follows_load : (places m : ℕ) (bytes : List ℕ) → Follows (load_walk w places m bytes) (logged w p (load places m bytes))
  unfolding load_walk logged started_at after
  follows_load places m bytes = by (granted (load_answer places m bytes))
    where
      by : (b : Bool) → Follows (cond b (started_at (net_of places bytes) m) w) (cond b (record { net = net_of places bytes; start = m; firings = [] }) p)
      by true = record { net = refl; start = refl; count = refl; present = refl; next = refl }
      by false = f

  follows_reset : Follows (reset_walk w) (logged w p reset)
  unfolding reset_walk logged moved_to after
  follows_reset = by (granted (loaded_answer w))
    where
      by : (b : Bool) → Follows (cond b (moved_to w w.start 0) w) (cond b (record { net = p.net; start = p.start; firings = [] }) p)
      by true = record { net = f.net; start = f.start; count = refl; present = ap some (sym f.start); next = refl }
      by false = f

  follows_fire : (t : ℕ) → Follows (fire_walk w t) (logged w p (fire t))
  unfolding fire_walk logged moved_to
  follows_fire t = by (granted (fire_answer w t)) refl
    where
      moves : granted (fire_answer w t) ≡ true
          → after p.net p.start (p.firings ++ (t ∷ [])) ≡ some (fired w.net w.present t)
      moves h =
          after_more p.net p.start w.present t p.firings f.present
          (ap (λ N. enabled N w.present t) (sym f.net) ∙ (fire_needs w t h).2)
          ∙ ap (λ N. some (fired N w.present t)) (sym f.net)

      counts : w.count + 1 ≡ length (p.firings ++ (t ∷ []))
      counts = ap (λ (n : ℕ). n + 1) f.count ∙ sym (length-append p.firings (t ∷ []))

      by : (b : Bool) → granted (fire_answer w t) ≡ b
          → Follows (cond b (moved_to w (fired w.net w.present t) (w.count + 1)) w)
          (cond b (record { net = p.net; start = p.start; firings = p.firings ++ (t ∷ []) }) p)
      by true h = record { net = f.net; start = f.start; count = counts; present = moves h; next = refl }
      by false h = f

  follows_called : (c : Call) → Follows (called w c) (logged w p c)
  unfolding called
  follows_called (load places m bytes) = follows_load places m bytes
  follows_called (fire t) = follows_fire t
  follows_called reset = follows_reset

-- ---- any sequence of calls

pub follows : (w : Walk) (p : Log) → Follows w p → (cs : List Call) → Follows (run w cs) (since w p cs)
unfolding run since
follows w p f [] = f
follows w p f (c ∷ cs) = follows (called w c) (logged w p c) (follows_called w p f c) cs

-- of a new walk
pub follows_new : (cs : List Call) → Follows (run empty cs) (since empty no_calls cs)
follows_new = follows empty no_calls start
  where
    start : Follows empty no_calls
    start = unfold empty no_calls after next collect in record { net = refl; start = refl; count = refl; present = refl; next = refl }

-- ---- the steps to offer

-- it is loaded, or it is new still
Made : Walk → Type 0
Made w = (loaded w ≡ true) ⊎ (w ≡ empty)

-- a new walk refuses all but a load
new_called : (c : Call) → Made (called empty c)
unfolding Made called load_walk fire_walk reset_walk fire_answer loaded_answer granted
new_called (load places m bytes) = by (granted (load_answer places m bytes)) refl
  where
    by : (b : Bool) → granted (load_answer places m bytes) ≡ b → Made (cond b (started_at (net_of places bytes) m) empty)
    by true h = inl (ap loaded (sym (if_true _ _ empty h)) ∙ load_loaded empty places m bytes h)
    by false h = inr refl
new_called (fire t) = inr (simp new_unloaded refl)
new_called reset = inr (simp new_unloaded refl)

made : (cs : List Call) → Made (run empty cs)
unfolding Made run
made [] = inr refl
made (c ∷ cs) = by (called empty c) (new_called c) (made cs)
  where
    by : (w : Walk) → Made w → Made (run empty cs) → Made (run w cs)
    by w (inl h) rest = inl (run_loaded w cs h)
    by w (inr e) rest = subst (λ v. Made (run v cs)) (sym e) rest

offers : (w : Walk) (t : ℕ) → StoresNext w → Made w → granted (fire_answer w t) ≡ (member w.next t && ltb w.count 65535)
unfolding Made empty
offers w t q p = grants_where w t ∙ by p ∙ sym (ap (λ b. b && room) (ap (λ (s : ℕ). member s t) q ∙ next_member w.net w.present t))
  where
    can : Bool
    can = enabled w.net w.present t

    room : Bool
    room = ltb w.count 65535

    by : Made w → (loaded w && (can && room)) ≡ (can && room)
    by (inl h) = ap (λ b. b && (can && room)) h
    by (inr e) =
        ap (λ b. b && (can && room)) (ap loaded e ∙ new_unloaded)
        ∙ sym (ap (λ b. b && room) (ap (λ v. enabled v.net v.present t) e ∙ enabled_out empty.net 0 t zero-le))

pub offers_steps : OffersSteps
unfolding OffersSteps
offers_steps cs t = offers (run empty cs) t (follows_new cs).next (made cs)

-- ---- why a step is refused

pub fire_explained : FireExplained
unfolding FireExplained fire_answer
fire_explained w t = by (loaded w) (ltb t w.net.transitions) (enabled w.net w.present t) (ltb w.count 65535) refl refl
  where
    plain : (a : Answer) → (a.found.number ≡ 41 → ⊥) → a.missing ≡ 0 → a.occupied ≡ 0 → Explained w.net w.present t a
    plain = other_explained w.net w.present t

    by : (l n e f : Bool) → ltb t w.net.transitions ≡ n → enabled w.net w.present t ≡ e
        → Explained w.net w.present t
        (cond l (cond n (cond e (cond f (grant 0) (refuse (fault 42 0))) (disabled w.net w.present t)) (refuse (fault 8 0))) (refuse (fault 40 0)))
    by true true true true p q = plain (grant 0) (λ d. omega (arith, d)) refl refl
    by true true true false p q = plain (refuse (fault 42 0)) (λ d. omega (arith, d)) refl refl
    by true true false f p q = disabled_explained w.net w.present t (ltb-true t w.net.transitions p) q
    by true false e f p q = plain (refuse (fault 8 0)) (λ d. omega (arith, d)) refl refl
    by false n e f p q = plain (refuse (fault 40 0)) (λ d. omega (arith, d)) refl refl

-- ---- the stored set

pub leaves_next : LeavesNext
unfolding LeavesNext answered called load_walk fire_walk reset_walk started_at moved_to
leaves_next w (load places m bytes) h = subst StoresNext (sym (if_true _ _ w h)) refl
leaves_next w (fire t) h = subst StoresNext (sym (if_true _ _ w h)) refl
leaves_next w reset h = subst StoresNext (sym (if_true _ _ w h)) refl

module _ (w : Walk) (n : ℕ) where
  same_answer : (c : Call) → answered (storing w n) c ≡ answered w c
  unfolding answered fire_answer loaded_answer loaded state_good storing
  same_answer (load places m bytes) = refl
  same_answer (fire t) = refl
  same_answer reset = refl

  same-after : (c : Call) → granted (answered w c) ≡ true → called (storing w n) c ≡ called w c
  unfolding answered called load_walk fire_walk reset_walk fire_answer loaded_answer loaded state_good moved_to storing
  same-after (load places m bytes) h = if_true _ _ (storing w n) h ∙ sym (if_true _ _ w h)
  same-after (fire t) h = if_true _ _ (storing w n) h ∙ sym (if_true _ _ w h)
  same-after reset h = if_true _ _ (storing w n) h ∙ sym (if_true _ _ w h)

  as_it_came : (c : Call) → granted (answered w c) ≡ false → called (storing w n) c ≡ storing w n
  unfolding answered called load_walk fire_walk reset_walk fire_answer loaded_answer loaded state_good storing
  as_it_came (load places m bytes) h = if_false _ _ (storing w n) h
  as_it_came (fire t) h = if_false _ _ (storing w n) h
  as_it_came reset h = if_false _ _ (storing w n) h

  pub any_stored : AnyStored w n
  unfolding read_marking read_count loaded_answer loaded state_good storing
  any_stored =
      record {
        condition = refl;
        answer = same_answer;
        after_granted = same-after;
        after_refused = as_it_came;
        marking = refl;
        count = refl;
        told = λ h. sym (read_granted (storing w n) h).3;
      }

-- ---- the optional transitions

module _ (w : Walk) (n : ℕ) where
  unmoved : (c : Call) → answered (marked w n) c ≡ answered w c
  unfolding answered fire_answer loaded_answer loaded net_good state_good sets_within enabled disabled missing occupied marked
  unmoved (load places m bytes) = refl
  unmoved (fire t) = refl
  unmoved reset = refl

  -- a call that moves the walk, or leaves it, does so with other marks too
  either_way : (b : Bool) (m k : ℕ) → cond b (moved_to (marked w n) m k) (marked w n) ≡ marked (cond b (moved_to w m k) w) n
  unfolding moved_to next enabled marked
  either_way true m k = refl
  either_way false m k = refl

  pub any_marks : AnyMarks w n
  unfolding load_walk fire_walk reset_walk read_marking read_count read_next fire_answer loaded_answer loaded net_good state_good sets_within enabled disabled missing occupied fired marked
  any_marks =
      record {
        condition = refl;
        answer = unmoved;
        loads = λ places m bytes h. if_true _ _ (marked w n) h ∙ sym (if_true _ _ w h);
        stays = λ places m bytes h. if_false _ _ (marked w n) h;
        fires = λ t. either_way (granted (fire_answer w t)) (fired w.net w.present t) (w.count + 1);
        resets = either_way (granted (loaded_answer w)) w.start 0;
        marking = refl;
        count = refl;
        next = refl;
      }

-- ---- firings one after the other

-- what a granted firing leaves
pub granted_walk : (w : Walk) (t : ℕ) → granted (fire_answer w t) ≡ true → fire_walk w t ≡ moved_to w (fired w.net w.present t) (w.count + 1)
unfolding fire_walk
granted_walk w t h = if_true _ _ w h

granted_count : (w : Walk) (t : ℕ) → granted (fire_answer w t) ≡ true → (fire_walk w t).count ≡ w.count + 1
unfolding moved_to
granted_count w t h = ap (λ v. v.count) (granted_walk w t h)

granted_after : (w : Walk) (t : ℕ) (ts : List ℕ) → granted (fire_answer w t) ≡ true
    → after (fire_walk w t).net (fire_walk w t).present ts ≡ after w.net (fired w.net w.present t) ts
unfolding moved_to
granted_after w t ts h = ap (λ v. after v.net v.present ts) (granted_walk w t h)

-- firings that are all granted are counted, and lead to the present marking
pub fired_all : (w : Walk) (ts : List ℕ) → all_granted w ts ≡ true
    → ((fire_all w ts).count ≡ w.count + length ts) × (after w.net w.present ts ≡ some (fire_all w ts).present)
unfolding fire_all all_granted after
fired_all w [] h = (sym (add-zero w.count), refl)
fired_all w (t ∷ ts) h =
    let g = and_left (granted (fire_answer w t)) (all_granted (fire_walk w t) ts) h in
    let r = fired_all (fire_walk w t) ts (and_right (granted (fire_answer w t)) (all_granted (fire_walk w t) ts) h) in
    let one = granted_count w t g in
    let sum : (fire_all (fire_walk w t) ts).count ≡ w.count + suc (length ts) = omega (arith, r.0, one) in (
      sum,
      if_true _ _ none (fire_needs w t g).2 ∙ sym (granted_after w t ts g) ∙ r.1,
    )

-- the first of a firing sequence of the walk's net, where the count has room for it, is granted, and the others are one of the walk after it
pub first_granted : (w : Walk) (e t : ℕ) (ts : List ℕ) → loaded w ≡ true → after w.net w.present (t ∷ ts) ≡ some e → w.count < 65535
    → (granted (fire_answer w t) ≡ true)
    × (loaded (fire_walk w t) ≡ true)
    × (after (fire_walk w t).net (fire_walk w t).present ts ≡ some e)
    × ((fire_walk w t).count ≡ w.count + 1)
first_granted w e t ts h q l =
    let p = after_first w.net w.present e t ts q in
    let g = fire_grants w t h p.0 l in
    (g, fire_loaded w t g, granted_after w t ts g ∙ p.1, granted_count w t g)

-- one for which the count has room is granted whole
pub all-granted : (w : Walk) (e : ℕ) (ts : List ℕ) → loaded w ≡ true → after w.net w.present ts ≡ some e → w.count + length ts ≤ 65535
    → all_granted w ts ≡ true
unfolding all_granted
all-granted w e [] h q l = refl
all-granted w e (t ∷ ts) h q l =
    let sum : w.count + suc (length ts) ≤ 65535 = l in
    let below : w.count < 65535 = omega arith in
    let p = first_granted w e t ts h q below in
    let most : (fire_walk w t).count + length ts ≤ 65535 = omega (arith, p.3) in
    and_intro (granted (fire_answer w t)) (all_granted (fire_walk w t) ts) p.0 (all-granted (fire_walk w t) e ts p.1 p.2 most)

-- ---- a granted load, and then firings that are all granted

pub loaded_then_fired : (w : Walk) (places m : ℕ) (bytes : List ℕ) (ts : List ℕ) → granted (load_answer places m bytes) ≡ true
    → all_granted (load_walk w places m bytes) ts ≡ true
    → ((fire_all (load_walk w places m bytes) ts).count ≡ length ts)
    × (after (net_of places bytes) m ts ≡ some (fire_all (load_walk w places m bytes) ts).present)
unfolding load_walk started_at
loaded_then_fired w places m bytes ts h g =
    let e : load_walk w places m bytes ≡ started_at (net_of places bytes) m = if_true _ _ w h in
    let r = fired_all (load_walk w places m bytes) ts g in
    (r.0 ∙ ap (λ v. v.count + length ts) e ∙ zero-add (length ts), sym (ap (λ v. after v.net v.present ts) e) ∙ r.1)
