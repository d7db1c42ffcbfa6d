-- What the functions keep, by their tests. Assumes nothing.
use mathlib.Core.Path.{◌≡◌, refl, sym, ap, ◌∙◌}
use mathlib.Core.Bool.{Bool, true, false, cond, not, ◌&&◌}
use mathlib.Core.List.{List}
use Prim.Native.Nat.{ℕ, ◌≤◌, ◌<◌}
use lib.ListN.{get_or, set}
use lib.Dec.{ltb, eqb}
use borrow.Author.Tests.{lt-ltb, le-ltb, not-true, not-false}
use Rattle.tables.proofs.Tests.{and_intro, if_true, if_false}
use Rattle.bitset.specs.Sets.{add}
use Rattle.pnml_state.specs.Serving.{marked, noted, joined_to}

pub marked_in : (m P v x : ℕ) → P < 64 → x ≡ add m P (eqb v 1) → x ≡ marked m P v
unfolding marked
marked_in m P v x h e = e ∙ sym (if_true (ltb P 64) (add m P (eqb v 1)) m (lt-ltb P 64 h))

pub marked_out : (m P v : ℕ) → 64 ≤ P → m ≡ marked m P v
unfolding marked
marked_out m P v h = sym (if_false (ltb P 64) (add m P (eqb v 1)) m (le-ltb P 64 h))

pub noted_in : (l : List ℕ) (t v : ℕ) → t < 64 → set l t v ≡ noted l t v
unfolding noted
noted_in l t v h = sym (if_true (ltb t 64) (set l t v) l (lt-ltb t 64 h))

pub noted_out : (l : List ℕ) (t v : ℕ) → 64 ≤ t → l ≡ noted l t v
unfolding noted
noted_out l t v h = sym (if_false (ltb t 64) (set l t v) l (le-ltb t 64 h))

module _ (l : List ℕ) (own : Bool) (t p : ℕ) where
  by_test : (own && (ltb t 64 && ltb p 64)) ≡ false → l ≡ joined_to l own t p
  unfolding joined_to
  by_test h = sym (if_false (own && (ltb t 64 && ltb p 64)) (set l t (add (get_or l t 0) p true)) l h)

  pub not_own : not own ≡ true → l ≡ joined_to l own t p
  not_own h = by_test (ap (λ b. b && (ltb t 64 && ltb p 64)) (not-true own h))

  pub no-entry : 64 ≤ t → l ≡ joined_to l own t p
  no-entry h = by_test (ap (λ b. own && (b && ltb p 64)) (le-ltb t 64 h) ∙ never own)
    where
      never : (b : Bool) → (b && false) ≡ false
      never true = refl
      never false = refl

  pub no_member : 64 ≤ p → l ≡ joined_to l own t p
  no_member h = by_test (ap (λ b. own && (ltb t 64 && b)) (le-ltb p 64 h) ∙ never own (ltb t 64))
    where
      never : (a b : Bool) → (a && (b && false)) ≡ false
      never true true = refl
      never true false = refl
      never false b = refl

  pub joined_in : (x : ℕ) → not own ≡ false → t < 64 → p < 64 → x ≡ add (get_or l t 0) p true → set l t x ≡ joined_to l own t p
  unfolding joined_to
  joined_in x a b c e =
      ap (λ (y : ℕ). set l t y) e
      ∙ sym (if_true (own && (ltb t 64 && ltb p 64)) (set l t (add (get_or l t 0) p true)) l
      (and_intro own (ltb t 64 && ltb p 64) (not-false own a)
      (and_intro (ltb t 64) (ltb p 64) (lt-ltb t 64 b) (lt-ltb p 64 c))))
