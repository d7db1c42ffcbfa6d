-- Steps of the joint net: enabled, fired, conflicts and firing sequences as in the halves. Assumes nothing.
use mathlib.Core.Path.{◌≡◌, refl, sym, ap, ap₂, ◌∙◌}
use mathlib.Core.Bool.{Bool, true, false, cond, not, ◌||◌}
use mathlib.Core.Logic.{◌⊎◌, inl, inr}
use mathlib.Core.List.{List, [], ◌∷◌, map}
use mathlib.Core.Option.{Option, none, some}
use Prim.Native.Nat.{ℕ, ◌+◌, ◌-◌, ◌≤◌, ◌<◌}
use native.Mathlib.Omega.{arith}
use lib.Dec.{eqb, ltb}
use borrow.Author.Tests.{le-ltb, ltb-true, ltb-false, eq-eqb, eqb-true, ne_eqb}
use Rattle.tables.proofs.Below.{lt_or_ge}
use Rattle.tables.proofs.Tests.{and_left, and_right, if_true, if_false, passed, same_test}
use Rattle.bitset.specs.Sets.{disjoint, union, within, shifted}
use Rattle.bitset.proofs.Relations.{union_within}
use Rattle.bitset.proofs.Shifts.{shifted_union, shifted_disjoint, apart_shifted}
use Rattle.net.specs.declared.Net.{Net}
use Rattle.net.specs.Step.{pre_of, post_of, enabled_by, fired_by, conflict_by, enabled, fired, touched, conflict}
use Rattle.net.specs.Table.{transitions, net_of}
use Rattle.net.specs.Answer.{no_fault}
use Rattle.net.specs.Sequence.{after}
use Rattle.net.proofs.Loops.{enabled_in, enabled_out}
use Rattle.net.proofs.Independence.{conflict_comm, moved_within}
use Rattle.join.specs.Joint.{Marked, net_by, beside, joint}
use Rattle.join.specs.Answer.{half_fault, size_fault}
use Rattle.join.specs.Theorem.{all_first, of_first, of_second, both}
use Rattle.join.proofs.Beside.{low_enabled, low_fired, high_enabled, high_fired}
use Rattle.join.proofs.Halves.{joint_count, pre_first, post_first, pre_in, post_in, pre_second, post_second}

-- sums are equal exactly where the second parts are
add_eqb : (n t u : ℕ) → eqb (n + t) (n + u) ≡ eqb t u
add_eqb n t u =
    same_test (eqb (n + t) (n + u)) (eqb t u) (λ h. let l : n + t ≡ n + u = eqb-true (n + t) (n + u) h in eq-eqb t u (omega arith))
    (λ h. let l : t ≡ u = eqb-true t u h in eq-eqb (n + t) (n + u) (omega arith))

module _ (f s : Marked) (p : half_fault f ≡ no_fault) (q : half_fault s ≡ no_fault) (e : size_fault f s ≡ no_fault) where
  abbrev F : Net
  F = net_by f

  abbrev S : Net
  S = net_by s

  abbrev J : Net
  J = net_by (joint f s)

  abbrev n : ℕ
  n = transitions f.bytes

  abbrev m : ℕ
  m = transitions s.bytes

  -- ---- how many

  pub count : J.transitions ≡ n + m
  unfolding net_of
  count = joint_count f s p q e

  -- ---- enabled and fired

  pub first_enabled : (a b t : ℕ) → t < n → enabled J (beside f.places a b) t ≡ enabled F a t
  unfolding net_of
  first_enabled a b t h =
      enabled_in J (beside f.places a b) t (omega (arith, count))
      ∙ ap₂ (λ (x y : ℕ). enabled_by x y (beside f.places a b)) (pre_first f s p q e t h) (post_first f s p q e t h)
      ∙ low_enabled f.places (pre_of F t) (post_of F t) (pre_in f s p q e t h) (post_in f s p q e t h) a b
      ∙ sym (enabled_in F a t h)

  pub first_fired : (a b t : ℕ) → t < n → fired J (beside f.places a b) t ≡ beside f.places (fired F a t) b
  unfolding fired
  first_fired a b t h =
      ap₂ (λ (x y : ℕ). fired_by x y (beside f.places a b)) (pre_first f s p q e t h) (post_first f s p q e t h)
      ∙ low_fired f.places (pre_of F t) (post_of F t) (pre_in f s p q e t h) (post_in f s p q e t h) a b

  pub second_enabled : (a b u : ℕ) → within f.places a ≡ true → enabled J (beside f.places a b) (n + u) ≡ enabled S b u
  unfolding net_of
  second_enabled a b u w = by (lt_or_ge u m)
    where
      by : (u < m) ⊎ (m ≤ u) → enabled J (beside f.places a b) (n + u) ≡ enabled S b u
      by (inl h) =
          enabled_in J (beside f.places a b) (n + u) (omega (arith, count))
          ∙ ap₂ (λ (x y : ℕ). enabled_by x y (beside f.places a b)) (pre_second f s p q e u h) (post_second f s p q e u h)
          ∙ high_enabled f.places (pre_of S u) (post_of S u) a b w
          ∙ sym (enabled_in S b u h)
      by (inr h) = enabled_out J (beside f.places a b) (n + u) (omega (arith, count)) ∙ sym (enabled_out S b u h)

  pub second_fired : (a b u : ℕ) → u < m → within f.places a ≡ true → fired J (beside f.places a b) (n + u) ≡ beside f.places a (fired S b u)
  unfolding fired
  second_fired a b u h w =
      ap₂ (λ (x y : ℕ). fired_by x y (beside f.places a b)) (pre_second f s p q e u h) (post_second f s p q e u h)
      ∙ high_fired f.places (pre_of S u) (post_of S u) a b w

  -- ---- conflicts

  touched_first : (t : ℕ) → t < n → touched J t ≡ touched F t
  unfolding touched
  touched_first t h = ap₂ union (pre_first f s p q e t h) (post_first f s p q e t h)

  touched_second : (u : ℕ) → u < m → touched J (n + u) ≡ shifted f.places (touched S u)
  unfolding touched
  touched_second u h =
      ap₂ union (pre_second f s p q e u h) (post_second f s p q e u h) ∙ shifted_union f.places (pre_of S u) (post_of S u)

  touched_in : (t : ℕ) → t < n → within f.places (touched F t) ≡ true
  unfolding touched
  touched_in t h = union_within f.places (pre_of F t) (post_of F t) (pre_in f s p q e t h) (post_in f s p q e t h)

  across : (t u : ℕ) → t < n → u < m → conflict J t (n + u) ≡ false
  unfolding conflict conflict_by
  across t u h k =
      ap₂ (λ x y. x || not y) (ne_eqb t (n + u) (λ z. omega arith))
      (ap₂ disjoint (touched_first t h) (touched_second u k) ∙ apart_shifted f.places (touched F t) (touched S u) (touched_in t h))

  pub apart : (t u : ℕ) → t < n → u < m → (conflict J t (n + u) ≡ false) × (conflict J (n + u) t ≡ false)
  apart t u h k = (across t u h k, conflict_comm J (n + u) t ∙ across t u h k)

  pub first_conflict : (t u : ℕ) → t < n → u < n → conflict J t u ≡ conflict F t u
  unfolding conflict
  first_conflict t u h k = ap₂ (λ (x y : ℕ). conflict_by t u x y) (touched_first t h) (touched_first u k)

  pub second_conflict : (t u : ℕ) → t < m → u < m → conflict J (n + t) (n + u) ≡ conflict S t u
  unfolding conflict conflict_by
  second_conflict t u h k =
      ap₂ (λ x y. x || not y) (add_eqb n t u)
      (ap₂ disjoint (touched_second t h) (touched_second u k) ∙ shifted_disjoint f.places (touched S t) (touched S u))

  -- ---- firing sequences

  first_stays : (a t : ℕ) → t < n → within f.places a ≡ true → within f.places (fired F a t) ≡ true
  unfolding fired
  first_stays a t h w = moved_within f.places (pre_of F t) (post_of F t) a (post_in f s p q e t h) w

  second_in : (b u : ℕ) → enabled S b u ≡ true → u < m
  unfolding enabled net_of
  second_in b u h = ltb-true u m (and_left (ltb u m) (enabled_by (pre_of S u) (post_of S u) b) h)

  -- what a list leads to, by what it has of each half
  abbrev Each : List ℕ → Type 0
  Each ts =
      (a b : ℕ) → within f.places a ≡ true
      → after J (beside f.places a b) ts ≡ both f.places (after F a (of_first n ts)) (after S b (of_second n ts))

  -- one transition of the first half, and then the rest
  step_first : (t : ℕ) (ts : List ℕ) → Each ts → ltb t n ≡ true → Each (t ∷ ts)
  unfolding after of_first of_second
  step_first t ts ih l a b w =
      let h : t < n = ltb-true t n l in
      ap₂ (λ x y. cond x y none) (first_enabled a b t h)
      (ap (λ (x : ℕ). after J x ts) (first_fired a b t h) ∙ ih (fired F a t) b (first_stays a t h w))
      ∙ moved (enabled F a t) (after F (fired F a t) (of_first n ts)) (after S b (of_second n ts))
      ∙ sym
      (ap₂ (λ x y. both f.places (after F a x) (after S b y)) (if_true (ltb t n) (t ∷ of_first n ts) (of_first n ts) l)
      (if_true (ltb t n) (of_second n ts) ((t - n) ∷ of_second n ts) l))
    where
      moved : (x : Bool) (y z : Option ℕ) → cond x (both f.places y z) none ≡ both f.places (cond x y none) z
      moved true y z = refl
      moved false y z = unfold both in refl

  -- one of the second half, and then the rest
  step_second : (t : ℕ) (ts : List ℕ) → Each ts → ltb t n ≡ false → Each (t ∷ ts)
  unfolding after of_first of_second
  step_second t ts ih l a b w =
      by (enabled S b (t - n)) refl
      ∙ sym
      (ap₂ (λ x y. both f.places (after F a x) (after S b y)) (if_false (ltb t n) (t ∷ of_first n ts) (of_first n ts) l)
      (if_false (ltb t n) (of_second n ts) ((t - n) ∷ of_second n ts) l))
    where
      number : n + (t - n) ≡ t
      number = let h : n ≤ t = ltb-false t n l in omega arith

      same : enabled J (beside f.places a b) t ≡ enabled S b (t - n)
      same = ap (enabled J (beside f.places a b)) (sym number) ∙ second_enabled a b (t - n) w

      stuck : (x : Option ℕ) → none ≡ both f.places x none
      stuck none = unfold both in refl
      stuck (some x) = unfold both in refl

      by : (x : Bool) → enabled S b (t - n) ≡ x
          → cond (enabled J (beside f.places a b) t) (after J (fired J (beside f.places a b) t) ts) none
          ≡ both f.places (after F a (of_first n ts)) (cond (enabled S b (t - n)) (after S (fired S b (t - n)) (of_second n ts)) none)
      by true h =
          if_true (enabled J (beside f.places a b) t) (after J (fired J (beside f.places a b) t) ts) none (same ∙ h)
          ∙ ap (λ (x : ℕ). after J x ts)
          (ap (fired J (beside f.places a b)) (sym number) ∙ second_fired a b (t - n) (second_in b (t - n) h) w)
          ∙ ih a (fired S b (t - n)) w
          ∙ ap (both f.places (after F a (of_first n ts))) (sym (if_true (enabled S b (t - n)) (after S (fired S b (t - n)) (of_second n ts)) none h))
      by false h =
          if_false (enabled J (beside f.places a b) t) (after J (fired J (beside f.places a b) t) ts) none (same ∙ h)
          ∙ stuck (after F a (of_first n ts))
          ∙ ap (both f.places (after F a (of_first n ts))) (sym (if_false (enabled S b (t - n)) (after S (fired S b (t - n)) (of_second n ts)) none h))

  pub each_after : (ts : List ℕ) → Each ts
  unfolding after of_first of_second both
  each_after [] a b w = refl
  each_after (t ∷ ts) a b w = by (each_after ts) (passed (ltb t n))
    where
      by : Each ts → (ltb t n ≡ true) ⊎ (ltb t n ≡ false)
          → after J (beside f.places a b) (t ∷ ts) ≡ both f.places (after F a (of_first n (t ∷ ts))) (after S b (of_second n (t ∷ ts)))
      by ih (inl l) = step_first t ts ih l a b w
      by ih (inr l) = step_second t ts ih l a b w

-- ---- lists of one half

all-first : (n : ℕ) (ts : List ℕ) → all_first n ts ≡ true → (of_first n ts ≡ ts) × (of_second n ts ≡ [])
unfolding all_first of_first of_second
all-first n [] h = (refl, refl)
all-first n (t ∷ ts) h =
    let l : ltb t n ≡ true = and_left (ltb t n) (all_first n ts) h in
    let r = all-first n ts (and_right (ltb t n) (all_first n ts) h) in (
      if_true (ltb t n) (t ∷ of_first n ts) (of_first n ts) l ∙ ap (λ x. t ∷ x) r.0,
      if_true (ltb t n) (of_second n ts) ((t - n) ∷ of_second n ts) l ∙ r.1,
    )

all_second : (n : ℕ) (us : List ℕ) → (of_first n (map (λ u. n + u) us) ≡ []) × (of_second n (map (λ u. n + u) us) ≡ us)
unfolding of_first of_second
all_second n [] = (refl, refl)
all_second n (u ∷ us) =
    let l : ltb (n + u) n ≡ false = le-ltb (n + u) n (omega arith) in
    let d : n + u - n ≡ u = omega arith in
    let r = all_second n us in (
      if_false (ltb (n + u) n) ((n + u) ∷ of_first n (map (λ u. n + u) us)) (of_first n (map (λ u. n + u) us)) l ∙ r.0,
      if_false (ltb (n + u) n) (of_second n (map (λ u. n + u) us)) ((n + u - n) ∷ of_second n (map (λ u. n + u) us)) l ∙ ap₂ ◌∷◌ d r.1,
    )

module _ (f s : Marked) (p : half_fault f ≡ no_fault) (q : half_fault s ≡ no_fault) (e : size_fault f s ≡ no_fault) (a b : ℕ)
    (w : within f.places a ≡ true) where
  abbrev joined : List ℕ → Option ℕ
  joined ts = after (net_by (joint f s)) (beside f.places a b) ts

  pub first_after : (ts : List ℕ) → all_first (transitions f.bytes) ts ≡ true → joined ts ≡ both f.places (after (net_by f) a ts) (some b)
  unfolding after
  first_after ts h =
      let r = all-first (transitions f.bytes) ts h in
      each_after f s p q e ts a b w ∙ ap₂ (λ x y. both f.places (after (net_by f) a x) (after (net_by s) b y)) r.0 r.1

  pub second_after : (us : List ℕ) → joined (map (λ u. transitions f.bytes + u) us) ≡ both f.places (some a) (after (net_by s) b us)
  unfolding after
  second_after us =
      let r = all_second (transitions f.bytes) us in
      each_after f s p q e (map (λ u. transitions f.bytes + u) us) a b w
      ∙ ap₂ (λ x y. both f.places (after (net_by f) a x) (after (net_by s) b y)) r.0 r.1
