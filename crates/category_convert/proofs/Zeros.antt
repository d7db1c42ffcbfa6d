-- Three zero words as a text that is all zero. Assumes nothing.
use mathlib.Core.Path.{◌≡◌, refl, sym, ap, ap₂, ◌∙◌, subst}
use mathlib.Core.Bool.{Bool, true, not, ◌&&◌}
use mathlib.Core.Logic.{⊎_elim}
use mathlib.Core.List.{List}
use Prim.Native.Nat.{ℕ, zero, suc, ◌+◌, ◌-◌, ◌*◌, ◌≤◌, ◌<◌, zero-le}
use native.Mathlib.Nat.{not-suc-le-zero, le_of_suc-le-suc}
use native.Mathlib.Omega.{arith}
use lib.ListN.{get_or, drop}
use lib.Seq.{get_or-drop}
use lib.Dec.{eqb}
use borrow.Author.Tests.{eq-eqb, eqb-true, not-false}
use Rattle.tables.specs.Bytes.{little, field}
use Rattle.tables.specs.Below.{none_below}
use Rattle.tables.proofs.Below.{lt_or_ge, none_is, none_at}
use Rattle.tables.proofs.Tests.{and_left, and_right, same_test}
use Rattle.category.specs.Records.{text_byte}
use Rattle.category.specs.Faults.{wrong_byte, text_is}
use Rattle.category.proofs.Texts.{wrong_after}

little_zero : (n : ℕ) (l : List ℕ) → little n l ≡ 0 → (k : ℕ) → k < n → get_or l k 0 ≡ 0
unfolding little
little_zero zero l e k m = absurd (not-suc-le-zero m)
little_zero (suc n) l e zero m = omega arith
little_zero (suc n) l e (suc k) m =
    let z : little n (drop 1 l) ≡ 0 = omega arith in
    let q : 1 + k ≡ suc k = omega arith in
    subst (λ (x : ℕ). get_or l x 0 ≡ 0) q (sym (get_or-drop 1 l k 0) ∙ little_zero n (drop 1 l) z k (le_of_suc-le-suc m))

zero_little : (n : ℕ) (l : List ℕ) → ((k : ℕ) → k < n → get_or l k 0 ≡ 0) → little n l ≡ 0
unfolding little
zero_little zero l h = refl
zero_little (suc n) l h =
    let a : get_or l 0 0 ≡ 0 = h 0 (omega arith) in
    let b : little n (drop 1 l) ≡ 0 = zero_little n (drop 1 l) (λ k m. get_or-drop 1 l k 0 ∙ h (1 + k) (omega arith)) in
    omega arith

-- the n bytes from p on, among those from `at` on
field_zero : (n p at : ℕ) (l : List ℕ) → field n p l ≡ 0 → (j : ℕ) → p ≤ at + j → at + j < p + n → get_or l (at + j) 0 ≡ 0
unfolding field
field_zero n p at l e j a b =
    let q : p + (at + j - p) ≡ at + j = omega arith in
    subst (λ (x : ℕ). get_or l x 0 ≡ 0) q (sym (get_or-drop p l (at + j - p) 0) ∙ little_zero n (drop p l) e (at + j - p) (omega arith))

zero_field : (n p at m : ℕ) (l : List ℕ) → ((j : ℕ) → j < m → get_or l (at + j) 0 ≡ 0) → at ≤ p → p + n ≤ at + m → field n p l ≡ 0
unfolding field
zero_field n p at m l h a b = zero_little n (drop p l) (λ k q. get_or-drop p l k 0 ∙ each k q)
  where
    each : (k : ℕ) → k < n → get_or l (p + k) 0 ≡ 0
    each k q = let e : at + (p + k - at) ≡ p + k = omega arith in subst (λ (x : ℕ). get_or l x 0 ≡ 0) e (h (p + k - at) (omega arith))

module _ (file : List ℕ) (i : ℕ) where
  abbrev start : ℕ
  start = i * 32 + 8

  abbrev word : ℕ → Bool
  word p = eqb (field 8 p file) 0

  words_zero : word start ≡ true → word (start + 8) ≡ true → word (start + 16) ≡ true → (j : ℕ) → j < 24 → text_byte file i j ≡ 0
  unfolding text_byte
  words_zero a b c j l =
      ⊎_elim
      (λ p. field_zero 8 start start file (eqb-true _ _ a) j (omega arith) (omega arith))
      (λ p. ⊎_elim
      (λ q. field_zero 8 (start + 8) start file (eqb-true _ _ b) j (omega arith) (omega arith))
      (λ q. field_zero 8 (start + 16) start file (eqb-true _ _ c) j (omega arith) (omega arith))
      (lt_or_ge j 16))
      (lt_or_ge j 8)

  zero_word : ((j : ℕ) → j < 24 → text_byte file i j ≡ 0) → (p : ℕ) → start ≤ p → p ≤ start + 16 → word p ≡ true
  unfolding text_byte
  zero_word h p a b = eq-eqb _ _ (zero_field 8 p start 24 file h a (omega arith))

  pub zero_words : (word start && word (start + 8) && word (start + 16)) ≡ text_is file i 0
  unfolding text_is
  zero_words = same_test _ _ to from
    where
      to : (word start && word (start + 8) && word (start + 16)) ≡ true → none_below (λ j. wrong_byte 0 j (text_byte file i j)) 24 ≡ true
      to e =
          let p : (word start && word (start + 8)) ≡ true = and_left (word start && word (start + 8)) (word (start + 16)) e in
          let z : (j : ℕ) → j < 24 → text_byte file i j ≡ 0 =
          words_zero (and_left (word start) (word (start + 8)) p) (and_right (word start) (word (start + 8)) p)
          (and_right (word start && word (start + 8)) (word (start + 16)) e) in
          none_is (λ j. wrong_byte 0 j (text_byte file i j)) 24 (λ j l. wrong_after 0 j _ zero-le ∙ ap not (eq-eqb _ _ (z j l)))

      from : none_below (λ j. wrong_byte 0 j (text_byte file i j)) 24 ≡ true → (word start && word (start + 8) && word (start + 16)) ≡ true
      from e =
          let z : (j : ℕ) → j < 24 → text_byte file i j ≡ 0 =
          λ j l. eqb-true _ _ (not-false _ (sym (wrong_after 0 j _ zero-le) ∙ none_at (λ j. wrong_byte 0 j (text_byte file i j)) 24 j e l)) in
          ap₂ ◌&&◌ (ap₂ ◌&&◌ (zero_word z start (omega arith) (omega arith)) (zero_word z (start + 8) (omega arith) (omega arith)))
          (zero_word z (start + 16) (omega arith) (omega arith))
