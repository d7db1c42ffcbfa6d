-- Parts of a list, and one list after another: lengths, entries, and the numbers that are read there. Assumes nothing.
use mathlib.Core.Path.{◌≡◌, refl, sym, ap, ap₂, ◌∙◌}
use mathlib.Core.List.{List, [], ◌++◌}
use Prim.Native.Nat.{ℕ, zero, suc, ◌+◌, ◌-◌, ◌*◌, ◌≤◌, ◌<◌}
use native.Mathlib.Omega.{arith}
use lib.ListN.{length, get_or, take, drop, length-take, length-drop, drop_of_length-le, get_or-append}
use lib.Seq.{drop-drop, drop_at, get_or-append-add, get_or-drop, get_or-take}
use Rattle.tables.specs.Bytes.{little, field}

-- ---- a part

pub length_part : (n at : ℕ) (l : List ℕ) → at + n ≤ length l → length (take n (drop at l)) ≡ n
length_part n at l h = simp (length-take, length-drop) (omega arith)

-- a byte of a part
pub get_d_part : (n at : ℕ) (l : List ℕ) (j : ℕ) → j < n → get_or (take n (drop at l)) j 0 ≡ get_or l (at + j) 0
get_d_part n at l j h = get_or-take n (drop at l) j 0 h ∙ get_or-drop at l j 0

-- a byte after a front of n bytes
pub get_d_after : (a b : List ℕ) (n j : ℕ) → length a ≡ n → n ≤ j → get_or (a ++ b) j 0 ≡ get_or b (j - n) 0
get_d_after a b n j e l =
    let p : j ≡ length a + (j - n) = omega arith in
    ap (λ (x : ℕ). get_or (a ++ b) x 0) p ∙ get_or-append-add a b (j - n) 0

-- ---- numbers

little_same : (n : ℕ) (l m : List ℕ) → ((k : ℕ) → k < n → get_or l k 0 ≡ get_or m k 0) → little n l ≡ little n m
unfolding little
little_same zero l m h = refl
little_same (suc n) l m h =
    ap₂ (λ (x y : ℕ). x + 256 * y) (h 0 (omega arith))
    (little_same n (drop 1 l) (drop 1 m) (λ k p. get_or-drop 1 l k 0 ∙ h (1 + k) (omega arith) ∙ sym (get_or-drop 1 m k 0)))

-- where the bytes are the same, so is the number
pub field_same : (n at to : ℕ) (l m : List ℕ) → ((k : ℕ) → k < n → get_or l (at + k) 0 ≡ get_or m (to + k) 0) → field n at l ≡ field n to m
unfolding field
field_same n at to l m h = little_same n (drop at l) (drop to m) (λ k p. get_or-drop at l k 0 ∙ h k p ∙ sym (get_or-drop to m k 0))

-- in a part
pub field_part : (n at size from : ℕ) (l : List ℕ) → at + n ≤ size → field n at (take size (drop from l)) ≡ field n (from + at) l
field_part n at size from l h =
    field_same n at (from + at) (take size (drop from l)) l
    (λ k p. get_d_part size from l (at + k) (omega arith) ∙ ap (λ (x : ℕ). get_or l x 0) (omega arith))

-- in a list that stands before another
pub field_before : (n at : ℕ) (a b : List ℕ) → at + n ≤ length a → field n at (a ++ b) ≡ field n at a
field_before n at a b h = field_same n at at (a ++ b) a (λ k p. get_or-append a b 0 (at + k) (omega arith))

-- in a list that stands after another
pub field_after : (a l : List ℕ) (at off w : ℕ) → length a ≡ at → field w (at + off) (a ++ l) ≡ field w off l
unfolding field
field_after a l at off w e = ap (little w) (sym (drop-drop off at (a ++ l)) ∙ ap (drop off) (drop_at a l at e))

-- past the end
pub field_past : (n at : ℕ) (l : List ℕ) → length l ≤ at → field n at l ≡ 0
unfolding field little
field_past n at l h = ap (little n) (drop_of_length-le l h) ∙ little_none n
  where
    little_none : (m : ℕ) → little m [] ≡ 0
    little_none zero = refl
    little_none (suc m) = ap (λ (x : ℕ). 0 + 256 * x) (little_none m)
