-- Little-endian numbers: a number of m + n bytes is one of m bytes and, above it, one of n; its bound. For any number of bytes.
-- Assumes nothing.
use mathlib.Core.Path.{◌≡◌, sym, ap, ap₂, ◌∙◌, subst}
use mathlib.Core.List.{List, [], ◌∷◌}
use Prim.Native.Nat.{ℕ, zero, suc, ◌+◌, ◌*◌, ◌^◌, ◌<◌}
use native.Mathlib.Nat.{zero-add, suc-add, add-zero, add_assoc, mul-add, mul_assoc, mul_comm, one-mul, pow-succ', lt-suc_self}
use native.Mathlib.Numerals.{add-one}
use native.Mathlib.Omega.{arith}
use lib.ListN.{get_or, drop}
use lib.Seq.{drop-drop, get_or-drop}
use Rattle.std.specs.Int.{w16, w32, w64, from_le_bytes, byte_worth, sum_through}
use Rattle.tables.specs.Bytes.{little, field}

little_split : (m n : ℕ) (l : List ℕ) → little (m + n) l ≡ little m l + 256 ^ m * little n (drop m l)
unfolding little
little_split zero n l = ap (λ (x : ℕ). little x l) (zero-add n) ∙ sym (one-mul (little n l)) ∙ sym (zero-add (1 * little n l))
little_split (suc m) n l =
    ap (λ (x : ℕ). little x l) (suc-add m n)
    ∙ ap (λ (x : ℕ). get_or l 0 0 + 256 * x) (little_split m n (drop 1 l) ∙ ap (λ x. little m (drop 1 l) + 256 ^ m * little n x) shifted)
    ∙ ap (λ (x : ℕ). get_or l 0 0 + x) (mul-add 256 (little m (drop 1 l)) (256 ^ m * high))
    ∙ sym (add_assoc (get_or l 0 0) (256 * little m (drop 1 l)) (256 * (256 ^ m * high)))
    ∙ ap (λ (x : ℕ). get_or l 0 0 + 256 * little m (drop 1 l) + x) (sym (mul_assoc 256 (256 ^ m) high) ∙ ap (λ (x : ℕ). x * high) (sym (pow-succ' 256 m)))
  where
    high : ℕ
    high = little n (drop (suc m) l)

    shifted : drop m (drop 1 l) ≡ drop (suc m) l
    shifted = drop-drop m 1 l ∙ ap (λ (x : ℕ). drop x l) (suc-add 0 m ∙ ap suc (zero-add m))

pub field_split : (m n at : ℕ) (l : List ℕ) → field (m + n) at l ≡ field m at l + 256 ^ m * field n (at + m) l
unfolding field
field_split m n at l = little_split m n (drop at l) ∙ ap (λ x. little m (drop at l) + 256 ^ m * little n x) (drop-drop m at l)

-- one byte
pub field_one : (at : ℕ) (l : List ℕ) → get_or l at 0 ≡ field 1 at l
unfolding field little
field_one at l =
    sym (add-zero (get_or l at 0)) ∙ ap (λ (x : ℕ). x + 256 * 0) (sym (get_or-drop at l 0 0 ∙ ap (λ (x : ℕ). get_or l x 0) (add-zero at)))

-- two bytes
pub field_two : (at : ℕ) (l : List ℕ) → get_or l at 0 + 256 * get_or l (at + 1) 0 ≡ field 2 at l
unfolding field little
field_two at l =
    ap₂ (λ (x y : ℕ). x + 256 * y) (sym (get_or-drop at l 0 0 ∙ ap (λ (x : ℕ). get_or l x 0) (add-zero at))) second
  where
    second : get_or l (at + 1) 0 ≡ get_or (drop 1 (drop at l)) 0 0 + 256 * 0
    second =
        sym (get_or-drop (at + 1) l 0 0 ∙ ap (λ (x : ℕ). get_or l x 0) (add-zero (at + 1)))
        ∙ ap (λ x. get_or x 0 0) (sym (drop-drop 1 at l))
        ∙ sym (add-zero (get_or (drop 1 (drop at l)) 0 0))

-- the number that the library makes of the bytes from an offset on, the lowest first
field_sum : (n at : ℕ) (l : List ℕ) → sum_through (λ i. byte_worth i (get_or l (at + i) 0)) n ≡ field (suc n) at l
field_sum zero at l = ap (λ (x : ℕ). get_or l x 0) (add-zero at) ∙ field_one at l
field_sum (suc n) at l =
    ap₂ ◌+◌
    (field_sum n at l)
    (ap (λ (x : ℕ). x * 256 ^ suc n) (field_one (at + suc n) l) ∙ mul_comm (field 1 (at + suc n) l) (256 ^ suc n))
    ∙ sym (field_split (suc n) 1 at l)
    ∙ ap (λ (x : ℕ). field x at l) (add-one (suc n))

-- its first byte stands at the offset itself
module _ (at : ℕ) (l : List ℕ) where
  first_byte : get_or l (at + 0) 0 ≡ get_or l at 0
  first_byte = ap (λ (x : ℕ). get_or l x 0) (add-zero at)

  pub field_of_two : from_le_bytes w16 (get_or l at 0 ∷ get_or l (at + 1) 0 ∷ []) ≡ field 2 at l
  field_of_two = ap (λ (b : ℕ). b + get_or l (at + 1) 0 * 256) (sym first_byte) ∙ field_sum 1 at l

  pub field_of_four : from_le_bytes w32 (get_or l at 0 ∷ get_or l (at + 1) 0 ∷ get_or l (at + 2) 0 ∷ get_or l (at + 3) 0 ∷ []) ≡ field 4 at l
  field_of_four =
      ap (λ (b : ℕ). b + get_or l (at + 1) 0 * 256 + get_or l (at + 2) 0 * 256 ^ 2 + get_or l (at + 3) 0 * 256 ^ 3) (sym first_byte)
      ∙ field_sum 3 at l

  pub field_of_eight : from_le_bytes w64 (get_or l at 0 ∷ get_or l (at + 1) 0 ∷ get_or l (at + 2) 0 ∷ get_or l (at + 3) 0
      ∷ get_or l (at + 4) 0 ∷ get_or l (at + 5) 0 ∷ get_or l (at + 6) 0 ∷ get_or l (at + 7) 0 ∷ []) ≡ field 8 at l
  field_of_eight =
      ap (λ (b : ℕ). b + get_or l (at + 1) 0 * 256 + get_or l (at + 2) 0 * 256 ^ 2 + get_or l (at + 3) 0 * 256 ^ 3
      + get_or l (at + 4) 0 * 256 ^ 4 + get_or l (at + 5) 0 * 256 ^ 5 + get_or l (at + 6) 0 * 256 ^ 6 + get_or l (at + 7) 0 * 256 ^ 7) (sym first_byte)
      ∙ field_sum 7 at l

-- each entry of a list of bytes is below 256
unfoldable pub Bytes : List ℕ → Type 0
Bytes l = (i : ℕ) → get_or l i 0 < 256

little_lt : (n : ℕ) (l : List ℕ) → Bytes l → little n l < 256 ^ n
unfolding little Bytes
little_lt zero l h = lt-suc_self 0
little_lt (suc n) l h =
    let b : get_or l 0 0 < 256 = h 0 in
    let r : little n (drop 1 l) < 256 ^ n = little_lt n (drop 1 l) (λ i. subst (λ (x : ℕ). x < 256) (sym (get_or-drop 1 l i 0)) (h (1 + i))) in
    subst (λ (x : ℕ). get_or l 0 0 + 256 * little n (drop 1 l) < x) (sym (pow-succ' 256 n)) (omega arith)

pub field_lt : (n at : ℕ) (l : List ℕ) → Bytes l → field n at l < 256 ^ n
unfolding field Bytes
field_lt n at l h = little_lt n (drop at l) (λ i. subst (λ (x : ℕ). x < 256) (sym (get_or-drop at l i 0)) (h (at + i)))
