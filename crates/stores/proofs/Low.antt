-- Numbers as bytes, the lowest first, and back. Assumes nothing.
use mathlib.Core.Path.{◌≡◌, refl, sym, ap, ap₂, ◌∙◌, subst}
use mathlib.Core.List.{List, [], ◌∷◌, ◌++◌}
use Prim.Native.Nat.{ℕ, zero, suc, ◌+◌, ◌-◌, ◌*◌, ◌/◌, ◌%◌, ◌^◌, ◌≤◌, ◌<◌}
use native.Mathlib.Nat.{not-suc-le-zero, le_of_suc-le-suc, pow-succ', mod-lt, zero-lt-suc}
use native.Mathlib.Omega.{arith}
use lib.ListN.{length, take, drop, length-drop}
use lib.Seq.{get_or-drop}
use lib.Arith.{lt-one}
use Rattle.tables.specs.Bytes.{little, field}
use Rattle.tables.proofs.Numbers.{Bytes}
use Rattle.stores.specs.Low.{low_bytes}

-- there are so many
pub low_length : (n x : ℕ) → length (low_bytes n x) ≡ n
unfolding low_bytes
low_length zero x = refl
low_length (suc n) x = ap suc (low_length n (x / 256))

-- the bytes of a number that bytes write are these bytes
pub low_little : (n : ℕ) (l : List ℕ) → Bytes l → n ≤ length l → low_bytes n (little n l) ≡ take n l
unfolding low_bytes little Bytes
low_little zero l b h = refl
low_little (suc n) [] b h = absurd (not-suc-le-zero h)
low_little (suc n) (a ∷ l) b h =
    let u : a < 256 = b 0 in
    let low : (a + 256 * little n l) % 256 ≡ a = omega arith in
    let high : (a + 256 * little n l) / 256 ≡ little n l = omega arith in
    ap₂ ◌∷◌ low (ap (low_bytes n) high ∙ low_little n l (λ i. b (suc i)) (le_of_suc-le-suc h))

-- the same at an offset
pub low_field : (l : List ℕ) → Bytes l → (n at : ℕ) → at + n ≤ length l → low_bytes n (field n at l) ≡ take n (drop at l)
unfolding field Bytes
low_field l bytes n at h =
    low_little n (drop at l) (λ i. subst (λ (x : ℕ). x < 256) (sym (get_or-drop at l i 0)) (bytes (at + i)))
    (let e : length (drop at l) ≡ length l - at = length-drop at l in omega arith)

-- the number that the bytes of a number write is this number
pub little_low : (n x : ℕ) (l : List ℕ) → x < 256 ^ n → little n (low_bytes n x ++ l) ≡ x
unfolding low_bytes little
little_low zero x l h = sym (lt-one h)
little_low (suc n) x l h =
    let p : x < 256 * 256 ^ n = subst (λ (y : ℕ). x < y) (pow-succ' 256 n) h in
    let e : little n (low_bytes n (x / 256) ++ l) ≡ x / 256 = little_low n (x / 256) l (omega arith) in
    let r : x % 256 + 256 * little n (low_bytes n (x / 256) ++ l) ≡ x = omega arith in
    r

-- they are bytes
pub low-bytes : (n x : ℕ) → Bytes (low_bytes n x)
unfolding low_bytes Bytes
low-bytes zero x i = zero-lt-suc 255
low-bytes (suc n) x zero = mod-lt x (zero-lt-suc 255)
low-bytes (suc n) x (suc i) = low-bytes n (x / 256) i

-- bytes after bytes are bytes
pub bytes_append : (a b : List ℕ) → Bytes a → Bytes b → Bytes (a ++ b)
unfolding Bytes
bytes_append [] b p q i = q i
bytes_append (x ∷ a) b p q zero = p 0
bytes_append (x ∷ a) b p q (suc i) = bytes_append a b (λ j. p (suc j)) q i
