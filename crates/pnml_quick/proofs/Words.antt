-- Words byte by byte: equal numbers are equal bytes. Assumes nothing.
use mathlib.Core.Path.{◌≡◌, refl, sym, ap, ◌∙◌, subst}
use mathlib.Core.Bool.{Bool, true, false}
use mathlib.Core.List.{List}
use Prim.Native.Nat.{ℕ, zero, suc, ◌+◌, ◌-◌, ◌≤◌, ◌<◌}
use native.Mathlib.Omega.{arith}
use lib.ListN.{length, get_or, drop}
use lib.Dec.{ltb}
use lib.Seq.{get_or-drop}
use borrow.Author.Tests.{ltb-true, ltb-false}
use Rattle.tables.specs.Bytes.{little, field}
use Rattle.tables.proofs.Numbers.{Bytes}
use Rattle.pnml_quick.specs.Serving.{Alike, From, There}

-- equal numbers are equal bytes
little_same : (n : ℕ) (l m : List ℕ) → Bytes l → Bytes m → little n l ≡ little n m → (j : ℕ) → j < n → get_or l j 0 ≡ get_or m j 0
unfolding little Bytes
little_same zero l m p q e j h = absurd (omega arith)
little_same (suc n) l m p q e zero h = omega (arith, p 0, q 0)
little_same (suc n) l m p q e (suc j) h =
    let r : little n (drop 1 l) ≡ little n (drop 1 m) = omega (arith, p 0, q 0) in
    let i = little_same n (drop 1 l) (drop 1 m) (λ i. subst (λ (x : ℕ). x < 256) (sym (get_or-drop 1 l i 0)) (p (1 + i)))
    (λ i. subst (λ (x : ℕ). x < 256) (sym (get_or-drop 1 m i 0)) (q (1 + i))) r j (omega arith) in
    let s : 1 + j ≡ suc j = omega arith in
    subst (λ (k : ℕ). get_or l k 0 ≡ get_or m k 0) s (sym (get_or-drop 1 l j 0) ∙ i ∙ get_or-drop 1 m j 0)

dropped : (l : List ℕ) (k : ℕ) → Bytes l → Bytes (drop k l)
unfolding Bytes
dropped l k p i = subst (λ (x : ℕ). x < 256) (sym (get_or-drop k l i 0)) (p (k + i))

pub fields_same : (n : ℕ) (t : List ℕ) (k : ℕ) (w : List ℕ) (i : ℕ) → Bytes t → Bytes w → field n k t ≡ field n i w → Alike t k w i n
unfolding field
fields_same n t k w i p q e =
    record {
      each = λ j h.
          sym (get_or-drop k t j 0) ∙ little_same n (drop k t) (drop i w) (dropped t k p) (dropped w i q) e j h ∙ get_or-drop i w j 0;
    }

-- ---- so far

pub from_none : (t : List ℕ) (at : ℕ) (w : List ℕ) (i : ℕ) → From t at w i i
from_none t at w i = record { each = λ j p q. absurd (omega arith) }

-- n bytes more
pub from_more : (t : List ℕ) (at : ℕ) (w : List ℕ) (f i n : ℕ) → From t at w f i → Alike t (at + i) w i n → From t at w f (i + n)
from_more t at w f i n s a = record { each = λ j p q. by j p q (ltb j i) refl }
  where
    by : (j : ℕ) → f ≤ j → j < i + n → (b : Bool) → ltb j i ≡ b → get_or t (at + j) 0 ≡ get_or w j 0
    by j p q true e = s.each j p (ltb-true j i e)
    by j p q false e =
        let h = ltb-false j i e in
        let d : ℕ = j - i in
        let x : at + i + d ≡ at + j = omega arith in
        let y : i + d ≡ j = omega arith in
        sym (ap (λ (k : ℕ). get_or t k 0) x) ∙ a.each d (omega arith) ∙ ap (λ (k : ℕ). get_or w k 0) y

-- one more
pub from_one : (t : List ℕ) (at : ℕ) (w : List ℕ) (f i : ℕ) → From t at w f i → get_or t (at + i) 0 ≡ get_or w i 0 → From t at w f (i + 1)
from_one t at w f i s e = from_more t at w f i 1 s (record { each = λ j h. by j h })
  where
    by : (j : ℕ) → j < 1 → get_or t (at + i + j) 0 ≡ get_or w (i + j) 0
    by j h =
        let x : at + i ≡ at + i + j = omega arith in
        let y : i ≡ i + j = omega arith in
        sym (ap (λ (k : ℕ). get_or t k 0) x) ∙ e ∙ ap (λ (k : ℕ). get_or w k 0) y

-- up to the end of the word
pub from_end : (t : List ℕ) (at : ℕ) (w : List ℕ) (f i n : ℕ) → From t at w f i → n ≤ i → From t at w f n
from_end t at w f i n s h = record { each = λ j p q. s.each j p (omega arith) }

-- the rest after these
pub from_join : (t : List ℕ) (at : ℕ) (w : List ℕ) (f i n : ℕ) → From t at w f i → From t at w i n → From t at w f n
from_join t at w f i n s r = record { each = λ j p q. by j p q (ltb j i) refl }
  where
    by : (j : ℕ) → f ≤ j → j < n → (b : Bool) → ltb j i ≡ b → get_or t (at + j) 0 ≡ get_or w j 0
    by j p q true e = s.each j p (ltb-true j i e)
    by j p q false e = r.each j (ltb-false j i e) q

-- n of them and the rest
pub from_first : (t : List ℕ) (at : ℕ) (w : List ℕ) (f n m : ℕ) → Alike t (at + f) w f n → From t at w (f + n) m → From t at w f m
from_first t at w f n m a r = from_join t at w f (f + n) m (from_more t at w f f n (from_none t at w f) a) r

-- all of them
pub there_all : (t : List ℕ) (at : ℕ) (w : List ℕ) (i : ℕ) → at + length w ≤ length t → From t at w 0 i → From t at w i (length w) → There t at w
there_all t at w i h s r = record { inside = h; same = from_join t at w 0 i (length w) s r }
