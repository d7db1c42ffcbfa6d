-- The text of a record, byte by byte: what the two runs say together. Assumes nothing.
use mathlib.Core.Path.{◌≡◌, refl, sym, ap, ap₂, ◌∙◌, subst}
use mathlib.Core.Bool.{Bool, true, false, not, ◌&&◌, or-true, or-false, false≢true}
use mathlib.Core.Logic.{⊎_elim}
use mathlib.Core.List.{List}
use Prim.Native.Nat.{ℕ, zero, suc, ◌+◌, ◌-◌, ◌*◌, ◌≤◌, ◌<◌, zero-le}
use native.Mathlib.Nat.{le_of_suc-le-suc, eq-or-lt_of_le, zero-add}
use native.Mathlib.Numerals.{add-one}
use native.Mathlib.Omega.{arith}
use lib.ListN.{get_or, take, drop}
use lib.Dec.{eqb, leb}
use Rattle.std.proofs.lemmas.List.{get_or-take, get_or-drop}
use borrow.Author.Tests.{lt-ltb, le-ltb, le-leb, leb-true, eqb-true, not-false}
use Rattle.tables.specs.Below.{every_below, none_below}
use Rattle.tables.specs.Lists.{first}
use Rattle.tables.proofs.Entries.{before_first, at_first}
use Rattle.tables.proofs.Below.{lt_or_ge, every_at, every_is, none_is, none_at}
use Rattle.tables.proofs.Tests.{and_left, and_right, same_test}
use Rattle.category.specs.Records.{text_byte, text_length}
use Rattle.category.specs.Faults.{good_byte, wrong_byte, text_is, text_good}
use Rattle.category.specs.Serving.{follows, run_follows}

-- ---- one byte

follows_zero : (a b : ℕ) → follows a b ≡ true → eqb a 0 ≡ true → eqb b 0 ≡ true
unfolding follows
follows_zero a b e z = sym (or-false (eqb b 0)) ∙ (rw z at e)

follows_good : (a b : ℕ) → follows a b ≡ true → eqb b 0 ≡ false → good_byte b ≡ true
unfolding follows
follows_good a b e z = and_right (not (eqb a 0)) (good_byte b) (rw z at e)

zero_follows : (a b : ℕ) → eqb b 0 ≡ true → follows a b ≡ true
unfolding follows
zero_follows a b z = rw z

good_follows : (a b : ℕ) → eqb a 0 ≡ false → good_byte b ≡ true → follows a b ≡ true
unfolding follows
good_follows a b z g = rw (z, g) (or-true (eqb b 0))

wrong_before : (size j b : ℕ) → j < size → wrong_byte size j b ≡ not (good_byte b)
unfolding wrong_byte
wrong_before size j b l = rw (lt-ltb j size l)

pub wrong_after : (size j b : ℕ) → size ≤ j → wrong_byte size j b ≡ not (eqb b 0)
unfolding wrong_byte
wrong_after size j b l = rw (le-ltb j size l)

zero_not_good : good_byte 0 ≡ true → ⊥
unfolding good_byte
zero_not_good e = false≢true e

-- two tests that agree below n
every_same : {f g : ℕ → Bool} (n : ℕ) → ((k : ℕ) → k < n → f k ≡ g k) → every_below f n ≡ every_below g n
unfolding every_below
every_same zero h = refl
every_same (suc n) h = ap₂ ◌&&◌ (every_same n (λ k l. h k (omega arith))) (h n (omega arith))

-- ---- a text of 24 bytes

abbrev size_of : (ℕ → ℕ) → ℕ
size_of t = first (λ j. eqb (t j) 0) 24

abbrev pub run : (ℕ → ℕ) → ℕ → Bool
run t from = every_below (λ k. follows (t (from + k)) (t (from + k + 1))) 16

module _ (t : ℕ → ℕ) where
  -- the two runs, and each byte after another
  runs_follow : run t 0 ≡ true → run t 7 ≡ true → (k : ℕ) → k < 23 → follows (t k) (t (k + 1)) ≡ true
  runs_follow a b k l =
      ⊎_elim
      (λ q. subst (λ (x : ℕ). follows (t x) (t (x + 1)) ≡ true) (zero-add k) (every_at (λ k. follows (t (0 + k)) (t (0 + k + 1))) 16 k a q))
      (λ q. let e : 7 + (k - 7) ≡ k = omega arith in
      subst (λ (x : ℕ). follows (t x) (t (x + 1)) ≡ true) e (every_at (λ k. follows (t (7 + k)) (t (7 + k + 1))) 16 (k - 7) b (omega arith)))
      (lt_or_ge k 16)

  follow_run : ((k : ℕ) → k < 23 → follows (t k) (t (k + 1)) ≡ true) → (from : ℕ) → from ≤ 7 → run t from ≡ true
  follow_run h from l = every_is (λ k. follows (t (from + k)) (t (from + k + 1))) 16 (λ k q. h (from + k) (omega arith))

  -- a good first byte, and each of the others may stand after the one before it: no byte is wrong
  module _ (g : good_byte (t 0) ≡ true) (h : (k : ℕ) → k < 23 → follows (t k) (t (k + 1)) ≡ true) where
    next : (k : ℕ) → k < 23 → follows (t k) (t (suc k)) ≡ true
    next k l = subst (λ (x : ℕ). follows (t k) (t x) ≡ true) (add-one k) (h k l)

    zeros : (j : ℕ) → size_of t ≤ j → j < 24 → eqb (t j) 0 ≡ true
    zeros zero l m =
        let e : size_of t ≡ 0 = omega arith in
        subst (λ (x : ℕ). eqb (t x) 0 ≡ true) e (at_first (λ j. eqb (t j) 0) 24 (omega arith))
    zeros (suc j) l m =
        ⊎_elim
        (λ e. subst (λ (x : ℕ). eqb (t x) 0 ≡ true) e (at_first (λ j. eqb (t j) 0) 24 (omega arith)))
        (λ q. follows_zero (t j) (t (suc j)) (next j (omega arith)) (zeros j (le_of_suc-le-suc q) (omega arith)))
        (eq-or-lt_of_le l)

    goods : (j : ℕ) → j < size_of t → j < 24 → good_byte (t j) ≡ true
    goods zero l m = g
    goods (suc j) l m = follows_good (t j) (t (suc j)) (next j (omega arith)) (before_first (λ j. eqb (t j) 0) 24 (suc j) l)

    none_wrong : (j : ℕ) → j < 24 → wrong_byte (size_of t) j (t j) ≡ false
    none_wrong j m =
        ⊎_elim
        (λ l. wrong_before (size_of t) j (t j) l ∙ ap not (goods j l m))
        (λ l. wrong_after (size_of t) j (t j) l ∙ ap not (zeros j l m))
        (lt_or_ge j (size_of t))

    one_byte : 1 ≤ size_of t
    one_byte =
        ⊎_elim
        (λ l. absurd (zero_not_good (subst (λ (x : ℕ). good_byte x ≡ true) (eqb-true (t 0) 0 (zeros 0 (omega arith) (omega arith))) g)))
        (λ l. l)
        (lt_or_ge (size_of t) 1)

  -- and the other way round
  module _ (s : 1 ≤ size_of t) (h : (j : ℕ) → j < 24 → wrong_byte (size_of t) j (t j) ≡ false) where
    good_at : (j : ℕ) → j < size_of t → j < 24 → good_byte (t j) ≡ true
    good_at j l m = not-false (good_byte (t j)) (sym (wrong_before (size_of t) j (t j) l) ∙ h j m)

    zero_at : (j : ℕ) → size_of t ≤ j → j < 24 → eqb (t j) 0 ≡ true
    zero_at j l m = not-false (eqb (t j) 0) (sym (wrong_after (size_of t) j (t j) l) ∙ h j m)

    follow_all : (k : ℕ) → k < 23 → follows (t k) (t (k + 1)) ≡ true
    follow_all k m =
        ⊎_elim
        (λ l. good_follows (t k) (t (k + 1)) (before_first (λ j. eqb (t j) 0) 24 k (omega arith)) (good_at (k + 1) l (omega arith)))
        (λ l. zero_follows (t k) (t (k + 1)) (zero_at (k + 1) l (omega arith)))
        (lt_or_ge (k + 1) (size_of t))

  runs_good : (good_byte (t 0) && run t 0 && run t 7) ≡ (leb 1 (size_of t) && none_below (λ j. wrong_byte (size_of t) j (t j)) 24)
  runs_good = same_test _ _ to from
    where
      to : (good_byte (t 0) && run t 0 && run t 7) ≡ true → (leb 1 (size_of t) && none_below (λ j. wrong_byte (size_of t) j (t j)) 24) ≡ true
      to e =
          let p : (good_byte (t 0) && run t 0) ≡ true = and_left (good_byte (t 0) && run t 0) (run t 7) e in
          let g : good_byte (t 0) ≡ true = and_left (good_byte (t 0)) (run t 0) p in
          let h : (k : ℕ) → k < 23 → follows (t k) (t (k + 1)) ≡ true =
          runs_follow (and_right (good_byte (t 0)) (run t 0) p) (and_right (good_byte (t 0) && run t 0) (run t 7) e) in
          ap₂ ◌&&◌ (le-leb 1 (size_of t) (one_byte g h)) (none_is (λ j. wrong_byte (size_of t) j (t j)) 24 (none_wrong g h))

      from : (leb 1 (size_of t) && none_below (λ j. wrong_byte (size_of t) j (t j)) 24) ≡ true → (good_byte (t 0) && run t 0 && run t 7) ≡ true
      from e =
          let s : 1 ≤ size_of t = leb-true 1 (size_of t) (and_left (leb 1 (size_of t)) (none_below (λ j. wrong_byte (size_of t) j (t j)) 24) e) in
          let h : (j : ℕ) → j < 24 → wrong_byte (size_of t) j (t j) ≡ false =
          λ j l. none_at (λ j. wrong_byte (size_of t) j (t j)) 24 j (and_right (leb 1 (size_of t)) (none_below (λ j. wrong_byte (size_of t) j (t j)) 24) e) l in
          ap₂ ◌&&◌ (ap₂ ◌&&◌ (good_at s h 0 s (omega arith)) (follow_run (follow_all s h) 0 zero-le)) (follow_run (follow_all s h) 7 (omega arith))

-- the run of 17 bytes of a text from byte `from` on
pub run_at : (file : List ℕ) (i from at n : ℕ) → at ≡ i * 32 + 8 + from → n ≡ 17 → run_follows (take n (drop at file)) ≡ run (text_byte file i) from
unfolding run_follows text_byte
run_at file i from at n e z = every_same 16 (λ k l. ap₂ follows (entry k (from + k) (omega arith) (omega arith)) (entry (k + 1) (from + k + 1) (omega arith) (omega arith)))
  where
    entry : (k j : ℕ) → k < n → from + k ≡ j → get_or (take n (drop at file)) k 0 ≡ get_or file (i * 32 + 8 + j) 0
    entry k j l q = get_or-take n (drop at file) k 0 l ∙ get_or-drop at file k 0 ∙ ap (λ (x : ℕ). get_or file x 0) (omega arith)

pub text-good : (file : List ℕ) (i : ℕ) → (good_byte (text_byte file i 0) && run (text_byte file i) 0 && run (text_byte file i) 7) ≡ text_good file i
unfolding text_good text_is text_length
text-good file i = runs_good (text_byte file i)
