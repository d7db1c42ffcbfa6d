-- A granted load gives a loaded walk, and every call keeps a loaded walk loaded. A new walk is not loaded. Assumes nothing.
use mathlib.Core.Path.{◌≡◌, refl, sym, ap, ◌∙◌}
use mathlib.Core.Bool.{Bool, true, false, cond, ◌&&◌, false≢true}
use mathlib.Core.List.{List, [], ◌∷◌}
use Prim.Native.Nat.{ℕ, ◌+◌, ◌/◌, ◌%◌, ◌≤◌, ◌<◌, zero-le}
use native.Mathlib.Omega.{arith}
use lib.ListN.{length}
use lib.Dec.{eqb, ltb, leb}
use borrow.Author.Tests.{lt-ltb, ltb-true, le-leb, not-false}
use Rattle.bitset.specs.Sets.{within}
use Rattle.tables.proofs.Tests.{and_left, and_right, and_intro, if_true}
use Rattle.tables.specs.Sizes.{sized}
use Rattle.net.specs.Step.{pre_of, post_of, enabled, fired}
use Rattle.net.specs.Table.{pre_at, post_at, mark_at, spare_at, transitions, net_of, places_good, table_sized, record_bad}
use Rattle.net.specs.Answer.{Fault, no_fault, fault, refuse, grant, load_fault, disabled}
use Rattle.net.proofs.Answers.{load_passed, load_cases, decoded_pre, decoded_post}
use Rattle.net.proofs.Independence.{moved_within}
use Rattle.walk.specs.declared.Walk.{Walk}
use Rattle.walk.specs.State.{started_at, moved_to, empty, sets_within, transitions_good, net_good, loaded}
use Rattle.walk.specs.Calls.{granted, load_answer, load_walk, fire_answer, fire_walk, loaded_answer, reset_walk}
use Rattle.walk.specs.History.{Call, called, run}
use Rattle.walk.specs.History.Call.{load, fire, reset}
use Rattle.tables.proofs.Below.{every_at, every_is}
use Rattle.walk.proofs.Walks.{Sound, loaded_sound, sound_loaded}

pub new_unloaded : loaded empty ≡ false
unfolding loaded net_good empty places_good
new_unloaded = refl

-- ---- what a granted call has passed

-- a load is granted where it meets none of 1, 2, 3 and 7
load_none : (places m : ℕ) (bytes : List ℕ) → granted (load_answer places m bytes) ≡ true → no_fault ≡ load_fault places m bytes
unfolding load_answer granted
load_none places m bytes =
    load_cases places m bytes (λ (f : Fault). granted (refuse f) ≡ true → no_fault ≡ f) (λ e. refl) (λ e. absurd (false≢true e)) (λ e. absurd (false≢true e))
    (λ k e. absurd (false≢true e)) (λ e. absurd (false≢true e))

-- a firing is granted where the walk is loaded, the transition is one of the net's and enabled, and the count is below 65,535
pub grants_where : (w : Walk) (t : ℕ) → granted (fire_answer w t) ≡ (loaded w && (enabled w.net w.present t && ltb w.count 65535))
unfolding fire_answer granted enabled disabled
grants_where w t = by (loaded w) (ltb t w.net.transitions) _ (ltb w.count 65535)
  where
    by : (l n e f : Bool)
        → granted (cond l (cond n (cond (n && e) (cond f (grant 0) (refuse (fault 42 0))) (disabled w.net w.present t)) (refuse (fault 8 0))) (refuse (fault 40 0)))
        ≡ (l && ((n && e) && f))
    by true true true true = refl
    by true true true false = refl
    by true true false f = refl
    by true false e f = refl
    by false n e f = refl

pub fire_needs : (w : Walk) (t : ℕ) → granted (fire_answer w t) ≡ true
    → (loaded w ≡ true) × (t < w.net.transitions) × (enabled w.net w.present t ≡ true) × (w.count < 65535)
unfolding enabled
fire_needs w t h =
    let can = enabled w.net w.present t in
    let room = ltb w.count 65535 in
    let all = sym (grants_where w t) ∙ h in
    let p = and_left can room (and_right (loaded w) (can && room) all) in (
      and_left (loaded w) (can && room) all,
      ltb-true t w.net.transitions (and_left (ltb t w.net.transitions) _ p),
      p,
      ltb-true w.count 65535 (and_right can room (and_right (loaded w) (can && room) all)),
    )

pub fire_grants : (w : Walk) (t : ℕ) → loaded w ≡ true → enabled w.net w.present t ≡ true → w.count < 65535 → granted (fire_answer w t) ≡ true
fire_grants w t h p l =
    let can = enabled w.net w.present t in
    let room = ltb w.count 65535 in
    grants_where w t ∙ and_intro (loaded w) (can && room) h (and_intro can room p (lt-ltb w.count 65535 l))

-- ---- load

module _ (places m : ℕ) (bytes : List ℕ) (e : no_fault ≡ load_fault places m bytes) where
  count_good : transitions_good (transitions bytes) ≡ true
  unfolding transitions_good transitions table_sized sized
  count_good =
      let h = (load_passed places m bytes e).1 in
      let n = length bytes / 24 in
      and_intro (leb 1 n) (leb n 64) (and_right (eqb (length bytes % 24) 0) (leb 1 n) (and_left (eqb (length bytes % 24) 0 && leb 1 n) (leb n 64) h))
      (and_right (eqb (length bytes % 24) 0 && leb 1 n) (leb n 64) h)

  record_within : (t : ℕ) → t < transitions bytes → (within places (pre_at bytes t) ≡ true) × (within places (post_at bytes t) ≡ true)
  unfolding record_bad
  record_within t l =
      let good = not-false (within places (pre_at bytes t) && within places (post_at bytes t) && leb (mark_at bytes t) 1 && eqb (spare_at bytes t) 0)
      ((load_passed places m bytes e).2 t l) in
      let marked = and_left (within places (pre_at bytes t) && within places (post_at bytes t) && leb (mark_at bytes t) 1) (eqb (spare_at bytes t) 0) good in
      let sets = and_left (within places (pre_at bytes t) && within places (post_at bytes t)) (leb (mark_at bytes t) 1) marked in
      (and_left (within places (pre_at bytes t)) (within places (post_at bytes t)) sets, and_right (within places (pre_at bytes t)) (within places (post_at bytes t)) sets)

  entry_within : (t : ℕ) → t < transitions bytes → sets_within (net_of places bytes) t ≡ true
  unfolding sets_within net_of
  entry_within t l =
      let whole = (load_passed places m bytes e).1 in
      let good = record_within t l in
      and_intro (within places (pre_of (net_of places bytes) t)) (within places (post_of (net_of places bytes) t))
      (ap (within places) (decoded_pre places bytes whole t l) ∙ good.0)
      (ap (within places) (decoded_post places bytes whole t l) ∙ good.1)

  load_sound : Sound (started_at (net_of places bytes) m)
  unfolding started_at net_of
  load_sound =
      let p = load_passed places m bytes e in
      record {
        places = p.0;
        transitions = count_good;
        sets = every_is (sets_within (net_of places bytes)) (transitions bytes) entry_within;
        start = p.3;
        present = p.3;
        count = refl;
      }

pub load_loaded : (w : Walk) (places m : ℕ) (bytes : List ℕ) → granted (load_answer places m bytes) ≡ true → loaded (load_walk w places m bytes) ≡ true
unfolding load_walk
load_loaded w places m bytes h =
    ap loaded (if_true _ _ w h)
    ∙ sound_loaded (started_at (net_of places bytes) m) (load_sound places m bytes (load_none places m bytes h))

-- ---- fire and reset

moved_sound : (w : Walk) (m n : ℕ) → Sound w → within w.net.places m ≡ true → n ≤ 65535 → Sound (moved_to w m n)
unfolding moved_to
moved_sound w m n s p q =
    record { places = s.places; transitions = s.transitions; sets = s.sets; start = s.start; present = p; count = le-leb n 65535 q }

-- the marking after a transition of a loaded walk
fired_within : (w : Walk) (t : ℕ) → Sound w → t < w.net.transitions → within w.net.places (fired w.net w.present t) ≡ true
unfolding fired sets_within
fired_within w t s l =
    moved_within w.net.places (pre_of w.net t) (post_of w.net t) w.present
    (and_right (within w.net.places (pre_of w.net t)) (within w.net.places (post_of w.net t))
    (every_at (sets_within w.net) w.net.transitions t s.sets l))
    s.present

pub fire_loaded : (w : Walk) (t : ℕ) → granted (fire_answer w t) ≡ true → loaded (fire_walk w t) ≡ true
unfolding fire_walk
fire_loaded w t h =
    let r = fire_needs w t h in
    let s = loaded_sound w r.0 in
    let most : w.count + 1 ≤ 65535 = omega (arith, r.3) in
    ap loaded (if_true _ _ w h)
    ∙ sound_loaded (moved_to w (fired w.net w.present t) (w.count + 1))
    (moved_sound w (fired w.net w.present t) (w.count + 1) s (fired_within w t s r.1) most)

reset_needs : (w : Walk) → granted (loaded_answer w) ≡ true → loaded w ≡ true
unfolding loaded_answer granted
reset_needs w = by (loaded w)
  where
    by : (l : Bool) → granted (cond l (grant 0) (refuse (fault 40 0))) ≡ true → l ≡ true
    by true e = refl
    by false e = absurd (false≢true e)

pub reset_loaded : (w : Walk) → granted (loaded_answer w) ≡ true → loaded (reset_walk w) ≡ true
unfolding reset_walk
reset_loaded w h =
    let s = loaded_sound w (reset_needs w h) in
    ap loaded (if_true _ _ w h)
    ∙ sound_loaded (moved_to w w.start 0) (moved_sound w w.start 0 s s.start zero-le)

-- ---- any sequence of calls

-- a call that is granted gives a loaded walk, and one that is refused gives the walk back
kept : (w v : Walk) → loaded w ≡ true → (b : Bool) → (b ≡ true → loaded (cond b v w) ≡ true) → loaded (cond b v w) ≡ true
kept w v h true g = g refl
kept w v h false g = h

pub called_loaded : (w : Walk) (c : Call) → loaded w ≡ true → loaded (called w c) ≡ true
unfolding called load_walk fire_walk reset_walk
called_loaded w (load places m bytes) h =
    kept w (started_at (net_of places bytes) m) h (granted (load_answer places m bytes)) (load_loaded w places m bytes)
called_loaded w (fire t) h =
    kept w (moved_to w (fired w.net w.present t) (w.count + 1)) h (granted (fire_answer w t)) (fire_loaded w t)
called_loaded w reset h = kept w (moved_to w w.start 0) h (granted (loaded_answer w)) (reset_loaded w)

pub run_loaded : (w : Walk) (cs : List Call) → loaded w ≡ true → loaded (run w cs) ≡ true
unfolding run
run_loaded w [] h = h
run_loaded w (c ∷ cs) h = run_loaded (called w c) cs (called_loaded w c h)
