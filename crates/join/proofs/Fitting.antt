-- Two nets that loading finds no fault in and that fit into one: bounds, and the length of the joint records. Assumes nothing.
use mathlib.Core.Path.{◌≡◌, refl, ap, ◌∙◌}
use mathlib.Core.Bool.{Bool, true, false, cond, ◌&&◌, and-false}
use mathlib.Core.Logic.{◌⊎◌, inl, inr}
use Prim.Native.Nat.{ℕ, ◌+◌, ◌/◌, ◌^◌, ◌≤◌, ◌<◌}
use native.Mathlib.Nat.{le_refl}
use native.Mathlib.Omega.{arith}
use lib.ListN.{length, length-append}
use lib.Dec.{leb}
use borrow.Author.Tests.{leb-true, le-leb, lt-leb}
use Rattle.tables.specs.Lists.{laid}
use Rattle.tables.proofs.Tests.{and_left, and_right, and_intro, if_true, if_false}
use Rattle.bitset.specs.Sets.{within, shifted}
use Rattle.bitset.proofs.Shifts.{shifted_fits}
use Rattle.net.specs.Table.{transitions}
use Rattle.net.specs.Answer.{Fault, no_fault, fault}
use Rattle.net.proofs.Loaded.{Loaded, load_has}
use Rattle.join.specs.Joint.{Marked, shifted_record, joint}
use Rattle.join.specs.Answer.{half_fault, size_fault}
use Rattle.join.specs.Serving.{Fits}
use Rattle.join.proofs.Records.{to_length}

-- what a half has
pub half_has : (h : Marked) → half_fault h ≡ no_fault → Loaded h.places h.marking h.bytes
half_has h e = load_has h.places h.marking h.bytes (ap (λ (x : Fault). x.number) e)

-- at most 64 records
pub few_records : (h : Marked) → half_fault h ≡ no_fault → length h.bytes / 24 ≤ 64
unfolding transitions
few_records h e = (half_has h e).most

-- two such halves have at most 128 places
pub few_places : (f s : Marked) → half_fault f ≡ no_fault → half_fault s ≡ no_fault → f.places + s.places ≤ 128
few_places f s p q = omega (arith, (half_has f p).places_most, (half_has s q).places_most)

-- 15 is that one of the two sums is above 64
module _ (f s : Marked) where
  abbrev places_fit : Bool
  places_fit = leb (f.places + s.places) 64

  pub size_fits : f.places + s.places ≤ 64 → transitions f.bytes + transitions s.bytes ≤ 64 → size_fault f s ≡ no_fault
  unfolding size_fault
  size_fits p q = if_true _ no_fault (fault 15 0) (and_intro places_fit _ (le-leb _ 64 p) (le-leb _ 64 q))

  pub size_large : (64 < f.places + s.places) ⊎ ((f.places + s.places ≤ 64) × (64 < transitions f.bytes + transitions s.bytes)) → size_fault f s ≡ fault 15 0
  unfolding size_fault
  size_large (inl h) =
      if_false _ no_fault (fault 15 0) (ap (λ b. b && leb (transitions f.bytes + transitions s.bytes) 64) (lt-leb _ 64 h))
  size_large (inr h) = if_false _ no_fault (fault 15 0) (ap (λ b. places_fit && b) (lt-leb _ 64 h.1) ∙ and-false places_fit)

-- without 15 both sums are at most 64
pub size_test : (f s : Marked) → (size_fault f s).number ≡ 0
    → (leb (f.places + s.places) 64 && leb (transitions f.bytes + transitions s.bytes) 64) ≡ true
unfolding size_fault
size_test f s = by (leb (f.places + s.places) 64 && leb (transitions f.bytes + transitions s.bytes) 64)
  where
    by : (b : Bool) → (cond b no_fault (fault 15 0)).number ≡ 0 → b ≡ true
    by true q = refl
    by false q = absurd (let z : ◌≡◌ {A = ℕ} 15 0 = q in omega arith)

module _ (f s : Marked) (e : size_fault f s ≡ no_fault) where
  sums : (leb (f.places + s.places) 64 && leb (transitions f.bytes + transitions s.bytes) 64) ≡ true
  sums = size_test f s (ap (λ (x : Fault). x.number) e)

  pub places_most : f.places + s.places ≤ 64
  places_most = leb-true _ 64 (and_left (leb (f.places + s.places) 64) (leb (transitions f.bytes + transitions s.bytes) 64) sums)

  pub count_most : transitions f.bytes + transitions s.bytes ≤ 64
  count_most = leb-true _ 64 (and_right (leb (f.places + s.places) 64) (leb (transitions f.bytes + transitions s.bytes) 64) sums)

module _ (f s : Marked) (p : half_fault f ≡ no_fault) (q : half_fault s ≡ no_fault) (e : size_fault f s ≡ no_fault) where
  second : Loaded s.places s.marking s.bytes
  second = half_has s q

  few : f.places < 64
  few = omega (arith, places_most f s e, second.places_least)

  -- a set of the second half, shifted, is a number of 64 bits
  set_fits : (x : ℕ) → within s.places x ≡ true → shifted f.places x < 2 ^ 64
  set_fits x w = shifted_fits f.places s.places 64 x w (places_most f s e)

  pub fits : Fits f.places s.bytes
  fits =
      record {
        few = few;
        pre = λ t h. set_fits _ (second.pre t h);
        post = λ t h. set_fits _ (second.post t h);
      }

  pub marking_fits : (f.places < 64) × (shifted f.places s.marking < 2 ^ 64)
  marking_fits = (few, set_fits s.marking second.marking)

-- the joint records are as long as both tables
pub joint_length : (f s : Marked) → half_fault s ≡ no_fault → length (joint f s).bytes ≡ length f.bytes + length s.bytes
unfolding joint
joint_length f s q =
    length-append f.bytes (laid (shifted_record f.places s.bytes) (transitions s.bytes))
    ∙ ap (λ (x : ℕ). length f.bytes + x) (to_length f.places s.bytes (transitions s.bytes) (le_refl _) ∙ (half_has s q).whole)
