-- What each call answers and leaves: what each way through the code has found fixes the answer and the walk. Assumes nothing.
use mathlib.Core.Path.{◌≡◌, refl, sym, ap, ap₂, ◌∙◌}
use mathlib.Core.Bool.{Bool, true, false, cond, not, ◌&&◌}
use mathlib.Core.List.{List}
use Prim.Native.Nat.{ℕ, ◌+◌, ◌≤◌, ◌<◌}
use lib.Dec.{eqb, ltb, leb}
use borrow.Author.Tests.{lt-ltb, le-ltb, not-false, leb-true}
use Rattle.bitset.specs.Sets.{within}
use Rattle.tables.specs.Below.{every_below}
use Rattle.tables.proofs.Tests.{and_left, and_right, and_intro, if_true, if_false}
use Rattle.net.specs.declared.Net.{Net}
use Rattle.net.specs.declared.Refusal.{Refusal}
use Rattle.net.specs.declared.Refusal.TheVariants.{Absent}
use Rattle.net.specs.Step.{pre_of, post_of, enabled_by, missing_by, occupied_by, enabled, missing, occupied, fired, next}
use Rattle.net.specs.Table.{places_good, net_of}
use Rattle.net.specs.Answer.{no_fault, fault, Answer, refuse, grant, disabled_by, refused, load_fault, disabled}
use Rattle.net.proofs.Loops.{enabled_in}
use Rattle.net.proofs.Answers.{refusal_number}
use Rattle.walk.specs.declared.Walk.{Walk}
use Rattle.walk.specs.declared.WalkRefusal.{WalkRefusal}
use Rattle.walk.specs.declared.WalkRefusal.TheVariants.{Net as InNet}
use Rattle.walk.specs.State.{started_at, moved_to, sets_within, transitions_good, net_good, state_good, loaded}
use Rattle.walk.specs.Calls.{refused_by, granted, load_answer, load_walk, fire_answer, fire_walk, loaded_answer, reset_walk, read_marking, read_count, read_next}

-- ---- load

module _ (w : Walk) (places m : ℕ) (bytes : List ℕ) where
  pub load_refused : (r : Refusal) → refused r ≡ refuse (load_fault places m bytes) → (refused r ≡ load_answer places m bytes) × (w ≡ load_walk w places m bytes)
  unfolding load_walk load_answer granted
  load_refused r e = (e, sym (if_false _ _ w (ap (λ a. eqb a.found.number 0) (sym e) ∙ refusal_number r)))

  pub load_granted : (N : Net) (s : ℕ) → no_fault ≡ load_fault places m bytes → N ≡ net_of places bytes → s ≡ next N m
      → (grant 0 ≡ load_answer places m bytes) × (record { net = N; start = m; present = m; count = 0; next = s } ≡ load_walk w places m bytes)
  unfolding load_walk load_answer granted started_at
  load_granted N s e d q = (
    ap refuse e,
    ap (λ (x : ℕ). record { net = N; start = m; present = m; count = 0; next = x }) q
        ∙ ap (λ n. started_at n m) d
        ∙ sym (if_true _ _ w (ap (λ f. eqb f.number 0) (sym e))),
  )

-- ---- loaded

-- what a loaded walk has
pub record Sound (w : Walk) : Type 0 where
  pub places : places_good w.net.places ≡ true
  pub transitions : transitions_good w.net.transitions ≡ true
  pub sets : every_below (sets_within w.net) w.net.transitions ≡ true
  pub start : within w.net.places w.start ≡ true
  pub present : within w.net.places w.present ≡ true
  pub count : leb w.count 65535 ≡ true

both : (a b : Bool) → (a && b) ≡ true → (a ≡ true) × (b ≡ true)
both a b h = (and_left a b h, and_right a b h)

module _ (w : Walk) where
  sized : Bool
  sized = places_good w.net.places && transitions_good w.net.transitions

  sets : Bool
  sets = every_below (sets_within w.net) w.net.transitions

  markings : Bool
  markings = within w.net.places w.start && within w.net.places w.present

  pub loaded_sound : loaded w ≡ true → Sound w
  unfolding loaded net_good state_good sized sets markings
  loaded_sound h =
      let a = both (sized && sets) (markings && leb w.count 65535) h in
      let b = both sized sets a.0 in
      let c = both (places_good w.net.places) (transitions_good w.net.transitions) b.0 in
      let d = both markings (leb w.count 65535) a.1 in
      let e = both (within w.net.places w.start) (within w.net.places w.present) d.0 in
      record { places = c.0; transitions = c.1; sets = b.1; start = e.0; present = e.1; count = d.1 }

  pub sound_loaded : Sound w → loaded w ≡ true
  unfolding loaded net_good state_good sized sets markings
  sound_loaded s =
      and_intro (sized && sets) (markings && leb w.count 65535)
      (and_intro sized sets (and_intro (places_good w.net.places) (transitions_good w.net.transitions) s.places s.transitions) s.sets)
      (and_intro markings (leb w.count 65535) (and_intro (within w.net.places w.start) (within w.net.places w.present) s.start s.present)
      s.count)

  -- its transitions are at most 64
  pub loaded_most : loaded w ≡ true → w.net.transitions ≤ 64
  unfolding transitions_good
  loaded_most h = let n = w.net.transitions in leb-true n 64 (and_right (leb 1 n) (leb n 64) (loaded_sound h).transitions)

pub good_most : (n : ℕ) → transitions_good n ≡ true → n ≤ 64
unfolding transitions_good
good_most n h = leb-true n 64 (and_right (leb 1 n) (leb n 64) h)

pub tested_most : (places n : ℕ) → not (places_good places && transitions_good n) ≡ false → n ≤ 64
tested_most places n h =
    good_most n (and_right (places_good places) (transitions_good n) (not-false (places_good places && transitions_good n) h))

-- ---- reset and read

module _ (w : Walk) where
  pub reset_refused : loaded w ≡ false → (refuse (fault 40 0) ≡ loaded_answer w) × (w ≡ reset_walk w)
  unfolding loaded_answer reset_walk granted
  reset_refused h =
      (sym (ap (λ b. cond b (grant 0) (refuse (fault 40 0))) h), sym (ap (λ b. cond (granted (cond b (grant 0) (refuse (fault 40 0)))) (moved_to w w.start 0) w) h))

  pub reset_granted : loaded w ≡ true → (grant 0 ≡ loaded_answer w) × (moved_to w w.start 0 ≡ reset_walk w)
  unfolding loaded_answer reset_walk granted
  reset_granted h =
      (sym (ap (λ b. cond b (grant 0) (refuse (fault 40 0))) h), sym (ap (λ b. cond (granted (cond b (grant 0) (refuse (fault 40 0)))) (moved_to w w.start 0) w) h))

  reads : (b : Bool) (n : ℕ) → loaded w ≡ b → cond (granted (loaded_answer w)) n 0 ≡ cond b n 0
  unfolding loaded_answer granted
  reads b n h = ap (λ x. cond (granted (cond x (grant 0) (refuse (fault 40 0)))) n 0) h ∙ same b
    where
      same : (x : Bool) → cond (granted (cond x (grant 0) (refuse (fault 40 0)))) n 0 ≡ cond x n 0
      same true = refl
      same false = refl

  pub read_refused : loaded w ≡ false
      → (refuse (fault 40 0) ≡ loaded_answer w) × (◌≡◌ {A = ℕ} 0 (read_marking w)) × (◌≡◌ {A = ℕ} 0 (read_count w)) × (◌≡◌ {A = ℕ} 0 (read_next w))
  unfolding read_marking read_count read_next
  read_refused h = ((reset_refused h).0, sym (reads false w.present h), sym (reads false w.count h), sym (reads false w.next h))

  pub read_granted : loaded w ≡ true
      → (grant 0 ≡ loaded_answer w) × (w.present ≡ read_marking w) × (w.count ≡ read_count w) × (w.next ≡ read_next w)
  unfolding read_marking read_count read_next
  read_granted h = ((reset_granted h).0, sym (reads true w.present h), sym (reads true w.count h), sym (reads true w.next h))

-- ---- fire

module _ (w : Walk) (t : ℕ) where
  -- the answer by its four tests
  abbrev by_tests : (l n e f : Bool) → Answer
  by_tests l n e f =
      cond l (cond n (cond e (cond f (grant 0) (refuse (fault 42 0))) (disabled w.net w.present t)) (refuse (fault 8 0))) (refuse (fault 40 0))

  answers : (l n e f : Bool) → loaded w ≡ l → ltb t w.net.transitions ≡ n → enabled w.net w.present t ≡ e → ltb w.count 65535 ≡ f
      → fire_answer w t ≡ by_tests l n e f
  unfolding fire_answer
  answers l n e f p q r s =
      ap₂ (λ x y. by_tests x y (enabled w.net w.present t) (ltb w.count 65535)) p q ∙ ap₂ (λ x y. by_tests l n x y) r s

  fires : (a : Answer) → fire_answer w t ≡ a → fire_walk w t ≡ cond (granted a) (moved_to w (fired w.net w.present t) (w.count + 1)) w
  unfolding fire_walk
  fires a e = ap (λ x. cond (granted x) (moved_to w (fired w.net w.present t) (w.count + 1)) w) e

  pub fire_unloaded : loaded w ≡ false → (refuse (fault 40 0) ≡ fire_answer w t) × (w ≡ fire_walk w t)
  unfolding granted
  fire_unloaded h = let e = answers false _ _ _ h refl refl refl in (sym e, sym (fires (refuse (fault 40 0)) e))

  pub fire_absent : loaded w ≡ true → w.net.transitions ≤ t → (r : WalkRefusal) → r ≡ InNet Absent → (refused_by r ≡ fire_answer w t) × (w ≡ fire_walk w t)
  unfolding refused_by refused granted
  fire_absent h l r p =
      let e = answers true false _ _ h (le-ltb t w.net.transitions l) refl refl in
      (ap refused_by p ∙ sym e, sym (fires (refuse (fault 8 0)) e))

  module _ (h : loaded w ≡ true) (l : t < w.net.transitions) where
    enabled_is : (b : Bool) → enabled_by (pre_of w.net t) (post_of w.net t) w.present ≡ b → enabled w.net w.present t ≡ b
    enabled_is b p = enabled_in w.net w.present t l ∙ p

    pub fire_disabled : enabled_by (pre_of w.net t) (post_of w.net t) w.present ≡ false
        → (why : Refusal) → refused why ≡ disabled_by (missing_by (pre_of w.net t) w.present) (occupied_by (pre_of w.net t) (post_of w.net t) w.present)
        → (r : WalkRefusal) → r ≡ InNet why → (refused_by r ≡ fire_answer w t) × (w ≡ fire_walk w t)
    unfolding refused_by granted disabled missing occupied
    fire_disabled p why q r s =
        let e = answers true true false _ h (lt-ltb t w.net.transitions l) (enabled_is false p) refl in
        (ap refused_by s ∙ q ∙ sym e, sym (fires (disabled w.net w.present t) e))

    module _ (p : enabled_by (pre_of w.net t) (post_of w.net t) w.present ≡ true) where
      pub fire_full : 65535 ≤ w.count → (refuse (fault 42 0) ≡ fire_answer w t) × (w ≡ fire_walk w t)
      unfolding granted
      fire_full k =
          let e = answers true true true false h (lt-ltb t w.net.transitions l) (enabled_is true p) (le-ltb w.count 65535 k) in
          (sym e, sym (fires (refuse (fault 42 0)) e))

      pub fire_granted : {v : Walk} → w.count < 65535 → (m : ℕ) → m ≡ fired w.net w.present t → v ≡ moved_to w m (w.count + 1)
          → (grant 0 ≡ fire_answer w t) × (v ≡ fire_walk w t)
      unfolding granted
      fire_granted k m q r =
          let e = answers true true true true h (lt-ltb t w.net.transitions l) (enabled_is true p) (lt-ltb w.count 65535 k) in
          (sym e, r ∙ ap (λ (x : ℕ). moved_to w x (w.count + 1)) q ∙ sym (fires (grant 0) e))
