-- Bytes put one after the other, and how many they are. Assumes nothing.
use Prim.Native.Nat.{ℕ, zero, suc, ◌+◌, ◌*◌, ◌/◌, ◌%◌, ◌≤◌, ◌<◌}
use mathlib.Core.Path.{◌≡◌, refl, sym, ap, subst, ◌∙◌}
use mathlib.Core.Bool.{Bool, true, false}
use mathlib.Core.List.{List, [], ◌∷◌, ◌++◌}
use native.Mathlib.Numerals.{add-one}
use native.Mathlib.Omega.{arith}
use lib.ListN.{length, get_or, set, length-append}
use lib.Seq.{sets}
use Rattle.texts.specs.Text.{decimal}
use Rattle.texts.proofs.Digits.{decimal_one, decimal_more, byte_length}
use Rattle.sample_pnml.specs.Built.{Put, element, elements, tag_ends, padded, spaced, often}

-- two stores in a row are one
sets_append : (a b l : List ℕ) (i : ℕ) → sets (sets l i a) (i + length a) b ≡ sets l i (a ++ b)
sets_append [] b l i = let e : i + 0 ≡ i = omega arith in rw e
sets_append (x ∷ a) b l i =
    let e : i + suc (length a) ≡ suc i + length a = omega arith in
    rw e (sets_append a b (set l i x) (suc i))

pub join : {l l' l'' : List ℕ} {at mid r : ℕ} {a b : List ℕ} → Put l l' at a mid → Put l' l'' mid b r → Put l l'' at (a ++ b) r
join {l} {l'} {l''} {at} {mid} {r} {a} {b} p q =
    record {
      stored =
          q.stored
          ∙ ap (λ (x : List ℕ). sets x mid b) p.stored
          ∙ ap (λ (k : ℕ). sets (sets l at a) k b) p.after_it
          ∙ sets_append a b l at;
      after_it = let s : length (a ++ b) ≡ length a + length b = length-append a b in omega (arith, p.after_it, q.after_it, s);
    }

-- the same bytes by another name
pub recast : {l l' : List ℕ} {at r : ℕ} {a b : List ℕ} → a ≡ b → Put l l' at a r → Put l l' at b r
recast {l} {l'} {at} {r} e p = subst (λ (x : List ℕ). Put l l' at x r) e p

-- nothing yet
pub nothing : (l : List ℕ) (at : ℕ) → Put l l at [] at
nothing l at = record { stored = refl; after_it = omega arith }

-- ---- numbers below 100

pub digit : (n : ℕ) → n < 10 → (48 + n) ∷ [] ≡ decimal n
digit n h = sym (decimal_one n h)

pub two_digits : (n : ℕ) → 10 ≤ n → n < 100 → (48 + n / 10) ∷ (48 + n % 10) ∷ [] ≡ decimal n
two_digits n h k =
    let d : n / 10 < 10 = omega arith in
    sym (decimal_more n h ∙ ap (λ (x : List ℕ). x ++ ((48 + n % 10) ∷ [])) (decimal_one (n / 10) d))

-- ---- elements

pub element_length : (o c : List ℕ) (n : ℕ) → n < 100 → length (element o n c) ≤ length o + 3 + length c
unfolding element
element_length o c n h = let d = byte_length n (omega arith) in simp length-append (omega arith)

pub elements_length : (o c : List ℕ) (n : ℕ) → length o ≤ 100 → length c ≤ 100 → n ≤ 100 → length (elements o c n) ≤ n * 203
unfolding elements
elements_length o c zero ho hc h = omega arith
elements_length o c (suc n) ho hc h =
    let i = elements_length o c n ho hc (omega arith) in
    let d = element_length o c n (omega arith) in
    simp length-append (omega arith)

pub no_elements : (o c l : List ℕ) (at : ℕ) → Put l l at (elements o c 0) at
unfolding elements
no_elements o c l at = nothing l at

pub more_elements : {l l' l'' : List ℕ} {at mid r : ℕ} (o c : List ℕ) (n : ℕ) → Put l l' at (elements o c n) mid → Put l' l'' mid (element o n c) r
    → Put l l'' at (elements o c (n + 1)) r
unfolding elements
more_elements o c n p q = rw add-one (join p q)

-- ---- white space

pub padded_length : (b : ℕ) (ends : Bool) → length (padded b ends) ≤ 5
unfolding padded
padded_length b true = omega arith
padded_length b false = omega arith

pub spaced_length : (text : List ℕ) (n : ℕ) → length (spaced text n) ≤ n * 5
unfolding spaced
spaced_length text zero = omega arith
spaced_length text (suc n) =
    let i = spaced_length text n in
    let d = padded_length (get_or text n 0) (tag_ends text n) in
    simp length-append (omega arith)

pub no_spaced : (text l : List ℕ) → Put l l 0 (spaced text 0) 0
unfolding spaced
no_spaced text l = nothing l 0

pub more_spaced : {l l' l'' : List ℕ} {mid r : ℕ} (text : List ℕ) (n : ℕ) (ends : Bool) → Put l l' 0 (spaced text n) mid → ends ≡ tag_ends text n
    → Put l' l'' mid (padded (get_or text n 0) ends) r → Put l l'' 0 (spaced text (n + 1)) r
unfolding spaced
more_spaced text n ends p e q = rw (add-one, ← e) (join p q)

-- ---- repeated bytes

pub often_length : (part : List ℕ) (n : ℕ) → length part ≤ 1000 → length (often part n) ≤ n * 1000
unfolding often
often_length part zero h = omega arith
often_length part (suc n) h = let i = often_length part n h in simp length-append (omega arith)

pub no_often : (part l : List ℕ) → Put l l 0 (often part 0) 0
unfolding often
no_often part l = nothing l 0

pub more_often : {l l' l'' : List ℕ} {mid r : ℕ} (part : List ℕ) (n : ℕ) → Put l l' 0 (often part n) mid → Put l' l'' mid part r
    → Put l l'' 0 (often part (n + 1)) r
unfolding often
more_often part n p q = rw add-one (join p q)

-- ---- all of them

pub all_spaced : {l l' : List ℕ} {r : ℕ} (text : List ℕ) {i n : ℕ} → i ≤ n → n ≤ i → Put l l' 0 (spaced text i) r → Put l l' 0 (spaced text n) r
all_spaced text {i} {n} a b p = let d : i ≡ n = omega arith in recast (ap (λ (k : ℕ). spaced text k) d) p

pub all_often : {l l' : List ℕ} {r : ℕ} (part : List ℕ) {i n : ℕ} → i ≤ n → n ≤ i → Put l l' 0 (often part i) r → Put l l' 0 (often part n) r
all_often part {i} {n} a b p = let d : i ≡ n = omega arith in recast (ap (λ (k : ℕ). often part k) d) p

-- ---- one byte and its white space

pub pad : (b : ℕ) (ends : Bool) → ends ≡ true → b ∷ 32 ∷ 9 ∷ 13 ∷ 10 ∷ [] ≡ padded b ends
unfolding padded
pad b ends h = rw h

pub no_pad : (b : ℕ) (ends : Bool) → ends ≡ false → b ∷ [] ≡ padded b ends
unfolding padded
no_pad b ends h = rw h
