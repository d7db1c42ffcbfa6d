-- Lists and numbers that are stored into a list one after the other. For any list and values. Assumes nothing.
use mathlib.Core.Path.{◌≡◌, refl, sym, ap, ap₂, ◌∙◌}
use mathlib.Core.List.{List, [], ◌∷◌, ◌++◌}
use Prim.Native.Nat.{ℕ, zero, suc, ◌+◌, ◌-◌, ◌/◌, ◌%◌, ◌≤◌, ◌<◌}
use native.Mathlib.Nat.{zero-add}
use native.Mathlib.Numerals.{add-one}
use native.Mathlib.Omega.{arith}
use lib.ListN.{length, set, drop}
use lib.Seq.{sets, sets-eq, set_comm}
use Rattle.texts.proofs.Buffers.{sets_append}
use Rattle.stores.specs.Low.{low_bytes}
use Rattle.stores.proofs.Low.{low_length}

-- ---- the bytes of a number

-- the lowest byte, and then the others
pub next_byte : (l : List ℕ) (k left v : ℕ) → 0 < left
    → sets (set l k (v % 256)) (k + 1) (low_bytes (left - 1) (v / 256)) ≡ sets l k (low_bytes left v)
unfolding low_bytes
next_byte l k zero v h = absurd (omega arith)
next_byte l k (suc left) v h = let d : suc left - 1 ≡ left = omega arith in rw (d, add-one)

-- none is left
pub no_byte : (l : List ℕ) (k left v : ℕ) → left ≤ 0 → sets l k (low_bytes left v) ≡ l
unfolding low_bytes
no_byte l k zero v h = refl
no_byte l k (suc left) v h = absurd (omega arith)

-- ---- one list after another

-- a list, and then another
pub after : (l : List ℕ) {l₁ l₂ : List ℕ} (i : ℕ) {j : ℕ} (vs ws : List ℕ) → j ≡ i + length vs → l₁ ≡ sets l i vs → l₂ ≡ sets l₁ j ws
    → l₂ ≡ sets l i (vs ++ ws)
after l i vs ws e p q = q ∙ ap₂ (λ (m : List ℕ) (k : ℕ). sets m k ws) p e ∙ sets_append vs ws l i

-- a number of n bytes, and then a list
pub after_low : (l : List ℕ) {l₁ l₂ : List ℕ} (i : ℕ) {j : ℕ} (n x : ℕ) (ws : List ℕ) → j ≡ i + n → l₁ ≡ sets l i (low_bytes n x)
    → l₂ ≡ sets l₁ j ws → l₂ ≡ sets l i (low_bytes n x ++ ws)
after_low l i n x ws e = after l i (low_bytes n x) ws (e ∙ ap (λ (k : ℕ). i + k) (sym (low_length n x)))

-- ---- apart from each other

-- a list, and an entry below it
set_sets : (ws l : List ℕ) (i j a : ℕ) → i < j → sets (set l i a) j ws ≡ set (sets l j ws) i a
set_sets [] l i j a h = refl
set_sets (b ∷ ws) l i j a h =
    let d : i ≡ j → ⊥ = λ e. omega arith in
    ap (λ (m : List ℕ). sets m (suc j) ws) (set_comm l i j a b d) ∙ set_sets ws (set l j b) i (suc j) a (omega arith)

-- two lists that do not overlap, in either order
pub sets_swap : (vs ws l : List ℕ) (i j : ℕ) → i + length vs ≤ j → sets (sets l i vs) j ws ≡ sets (sets l j ws) i vs
sets_swap [] ws l i j h = refl
sets_swap (a ∷ vs) ws l i j h =
    sets_swap vs ws (set l i a) (suc i) j (omega arith) ∙ ap (λ (m : List ℕ). sets m (suc i) vs) (set_sets ws l i j a (omega arith))

-- ---- at the front

-- what is stored stands in front, and the rest stays
pub sets_front : (room vs : List ℕ) → length vs ≤ length room → sets room 0 vs ≡ vs ++ drop (length vs) room
sets_front room vs h = sets-eq vs room 0 (omega arith) ∙ ap (λ (k : ℕ). vs ++ drop k room) (zero-add (length vs))
