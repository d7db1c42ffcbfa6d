-- Texts that are put one after the other, where there is room. Assumes nothing.
use mathlib.Core.Path.{◌≡◌, refl, sym, ap, ap₂, ◌∙◌}
use mathlib.Core.List.{List, [], ◌∷◌, ◌++◌}
use Prim.Native.Nat.{ℕ, ◌+◌, ◌/◌, ◌%◌, ◌≤◌, ◌<◌}
use native.Mathlib.Nat.{mod-lt}
use native.Mathlib.Numerals.{add-one}
use native.Mathlib.Omega.{arith}
use lib.ListN.{length, take, get_or, set, length-append}
use lib.Seq.{sets, length-sets, take-suc, take-length}
use Rattle.texts.specs.Text.{decimal}
use Rattle.texts.proofs.Buffers.{sets_append}
use Rattle.texts.proofs.Digits.{decimal_one, decimal_more}
use Rattle.pnml_put.specs.Put.{Put}

-- one text after another
pub join : {j k : ℕ} {l₀ l₁ l₂ : List ℕ} {at mid end : ℕ} {vs ws : List ℕ} → Put j l₀ l₁ at vs mid → Put k l₁ l₂ mid ws end
    → Put (j + k) l₀ l₂ at (vs ++ ws) end
join {j} {k} {l₀} {l₁} {l₂} {at} {mid} {end} {vs} {ws} p q =
    record {
      next = omega (arith, p.next, q.next, length-append vs ws);
      bound = omega (arith, p.bound, q.bound);
      bytes = q.bytes ∙ ap₂ (λ (l : List ℕ) (x : ℕ). sets l x ws) p.bytes p.next ∙ sets_append vs ws l₀ at;
    }

-- the same text by another name, and another bound
pub recast : {j k : ℕ} {l₀ l₁ : List ℕ} {at end : ℕ} {vs ws : List ℕ} → j ≤ k → vs ≡ ws → Put j l₀ l₁ at vs end → Put k l₀ l₁ at ws end
recast {j} {k} {l₀} {l₁} {at} {end} {vs} {ws} h e p =
    record {
      next = p.next ∙ ap (λ (x : List ℕ). at + length x) e;
      bound = omega (arith, p.bound);
      bytes = p.bytes ∙ ap (λ (x : List ℕ). sets l₀ at x) e;
    }

-- the room keeps its length
pub put_length : {k : ℕ} {l l' : List ℕ} {at r : ℕ} {vs : List ℕ} → Put k l l' at vs r → length l' ≡ length l
put_length {k} {l} {l'} {at} {r} {vs} p = ap length p.bytes ∙ length-sets l at vs

-- a byte
pub byte : (l : List ℕ) (at v : ℕ) → Put 1 l (set l at v) at (v ∷ []) (at + 1)
byte l at v = record { next = refl; bound = omega arith; bytes = refl }

-- no byte yet
pub nothing : (l : List ℕ) (at : ℕ) → Put 0 l l at [] (at + 0)
nothing l at = record { next = refl; bound = omega arith; bytes = refl }

-- the same, by the index alone
pub start : (l : List ℕ) (at : ℕ) → Put 0 l l at [] at
start l at = record { next = omega arith; bound = omega arith; bytes = refl }

-- a word that has come to byte i: one byte more
pub word_more : {l l' : List ℕ} {at : ℕ} (w : List ℕ) (i : ℕ) → i < length w → Put i l l' at (take i w) (at + i)
    → Put (i + 1) l (set l' (at + i) (get_or w i 0)) at (take (i + 1) w) (at + (i + 1))
word_more {l} {l'} {at} w i h p = there (recast (omega arith) (sym (ap (λ (k : ℕ). take k w) (add-one i) ∙ take-suc w i 0 h)) (join p (byte l' (at + i) (get_or w i 0))))
  where
    there : Put (i + 1) l (set l' (at + i) (get_or w i 0)) at (take (i + 1) w) (at + i + 1)
        → Put (i + 1) l (set l' (at + i) (get_or w i 0)) at (take (i + 1) w) (at + (i + 1))
    there q = record { next = omega (arith, q.next); bound = omega arith; bytes = q.bytes }

pub word_all : {l l' : List ℕ} {at : ℕ} (w : List ℕ) (i : ℕ) → i ≡ length w → Put i l l' at (take i w) (at + i)
    → Put (length w) l l' at w (at + length w)
word_all {l} {l'} {at} w i h p =
    record {
      next = refl;
      bound = omega arith;
      bytes = p.bytes ∙ ap (λ (x : List ℕ). sets l at x) (ap (λ (k : ℕ). take k w) h ∙ take-length w);
    }

-- ---- a number, digit by digit

pub number_one : (l : List ℕ) (at n : ℕ) → n < 10 → Put 1 l (set l at (48 + n)) at (decimal n) (at + 1)
number_one l at n h = recast (omega arith) (sym (decimal_one n h)) (byte l at (48 + n))

-- the digits before the last, and the last
pub number_split : (n : ℕ) → 10 ≤ n → decimal (n / 10) ++ decimal (n % 10) ≡ decimal n
number_split n h = ap (λ (x : List ℕ). decimal (n / 10) ++ x) (decimal_one (n % 10) (mod-lt n (omega arith))) ∙ sym (decimal_more n h)

pub number_more : {k : ℕ} {l l' l'' : List ℕ} {at mid r : ℕ} (n : ℕ) → 10 ≤ n → Put k l l' at (decimal (n / 10)) mid
    → Put 1 l' l'' mid (decimal (n % 10)) r → Put (k + 1) l l'' at (decimal n) r
number_more n h p q = recast (omega arith) (number_split n h) (join p q)
