-- Two records that have the same bytes, in part or whole, in the same file or in two: what is read there is the same. Assumes nothing.
use mathlib.Core.Path.{◌≡◌, sym, ap, ap₂, ◌∙◌}
use mathlib.Core.Bool.{◌&&◌}
use mathlib.Core.List.{List}
use Prim.Native.Nat.{ℕ, ◌+◌, ◌*◌, ◌≤◌, ◌<◌, zero-le}
use native.Mathlib.Nat.{add-zero, add_assoc}
use native.Mathlib.Omega.{arith}
use lib.ListN.{length, get_or, take, drop}
use lib.Seq.{ext_get_or}
use lib.Dec.{eqb, leb}
use Rattle.tables.specs.Bytes.{field}
use Rattle.tables.specs.Below.{none_below}
use Rattle.tables.proofs.Numbers.{field_two}
use Rattle.tables.proofs.Counts.{record_inside}
use Rattle.tables.proofs.Entries.{first_ext}
use Rattle.tables.proofs.Parts.{length_part, get_d_part}
use Rattle.category.specs.Records.{count, action_at, kind_at, lender_at, text_byte, spare_zero, text_length}
use Rattle.category.specs.Faults.{wrong_byte, text_is, text_good}
use Rattle.category.specs.Labels.{own_text}
use Rattle.category.proofs.Sources.{text_length_le}

-- parts with the same bytes
part_same : (n a b : ℕ) (f g : List ℕ) → a + n ≤ length f → b + n ≤ length g → ((j : ℕ) → j < n → get_or f (a + j) 0 ≡ get_or g (b + j) 0)
    → take n (drop a f) ≡ take n (drop b g)
part_same n a b f g p q h = ext_get_or 0 (take n (drop a f)) (take n (drop b g)) (length_part n a f p ∙ sym (length_part n b g q)) byte
  where
    byte : (j : ℕ) → j < length (take n (drop a f)) → get_or (take n (drop a f)) j 0 ≡ get_or (take n (drop b g)) j 0
    byte j l =
        let m : j < n = omega (arith, length_part n a f p) in
        get_d_part n a f j m ∙ h j m ∙ sym (get_d_part n b g j m)

-- the bytes `from` to `to` of record i of f are those of record k of g
pub record Same (f : List ℕ) (i : ℕ) (g : List ℕ) (k from to : ℕ) : Type 0 where
  pub byte : (j : ℕ) → from ≤ j → j < to → get_or f (i * 32 + j) 0 ≡ get_or g (k * 32 + j) 0

module _ {f : List ℕ} {i : ℕ} {g : List ℕ} {k : ℕ} where
  -- a number of two bytes
  word : {from to : ℕ} → Same f i g k from to → (at : ℕ) → from ≤ at → at + 1 < to → field 2 (i * 32 + at) f ≡ field 2 (k * 32 + at) g
  word s at l h =
      sym (field_two (i * 32 + at) f)
      ∙ ap₂ (λ (x y : ℕ). x + 256 * y) (s.byte at l (omega arith)) second
      ∙ field_two (k * 32 + at) g
    where
      second : get_or f (i * 32 + at + 1) 0 ≡ get_or g (k * 32 + at + 1) 0
      second = rw (add_assoc (i * 32) at 1, add_assoc (k * 32) at 1) (s.byte (at + 1) (omega arith) h)

  pub action_same : Same f i g k 0 2 → action_at f i ≡ action_at g k
  unfolding action_at
  action_same s =
      ap (λ (x : ℕ). field 2 x f) (sym (add-zero (i * 32))) ∙ word s 0 zero-le (omega arith) ∙ ap (λ (x : ℕ). field 2 x g) (add-zero (k * 32))

  -- the kind, the lender and what is spare
  module _ (s : Same f i g k 2 8) where
    pub kind_same : kind_at f i ≡ kind_at g k
    unfolding kind_at
    kind_same = s.byte 2 (omega arith) (omega arith)

    pub lender_same : lender_at f i ≡ lender_at g k
    unfolding lender_at
    lender_same = word s 4 (omega arith) (omega arith)

    pub spare_same : spare_zero f i ≡ spare_zero g k
    unfolding spare_zero
    spare_same =
        ap₂ (λ (x y : ℕ). eqb x 0 && eqb y 0) (s.byte 3 (omega arith) (omega arith)) (word s 6 (omega arith) (omega arith))

  -- the text
  module _ (s : Same f i g k 8 32) where
    text_byte_same : (j : ℕ) → j < 24 → text_byte f i j ≡ text_byte g k j
    unfolding text_byte
    text_byte_same j l = rw (add_assoc (i * 32) 8 j, add_assoc (k * 32) 8 j) (s.byte (8 + j) (omega arith) (omega arith))

    text_length_same : text_length f i ≡ text_length g k
    unfolding text_length
    text_length_same =
        first_ext (λ j. eqb (text_byte f i j) 0) (λ j. eqb (text_byte g k j) 0) 24 (λ j l. ap (λ (x : ℕ). eqb x 0) (text_byte_same j l))

    text_is_same : (size : ℕ) → text_is f i size ≡ text_is g k size
    unfolding text_is none_below
    text_is_same size =
        ap (λ (x : ℕ). eqb x 24)
        (first_ext (λ j. wrong_byte size j (text_byte f i j)) (λ j. wrong_byte size j (text_byte g k j)) 24
        (λ j l. ap (wrong_byte size j) (text_byte_same j l)))

    pub text_good_same : text_good f i ≡ text_good g k
    unfolding text_good
    text_good_same =
        ap₂ ◌&&◌ (ap (leb 1) text_length_same) (text_is_same (text_length f i) ∙ ap (text_is g k) text_length_same)

    pub own_text_same : i < count f → k < count g → own_text f i ≡ own_text g k
    unfolding own_text text_byte
    own_text_same l m =
        part_same (text_length f i) (i * 32 + 8) (k * 32 + 8) f g
        (omega (arith, record_inside 32 (length f) i l, text_length_le f i))
        (omega (arith, record_inside 32 (length g) k m, text_length_le f i))
        (λ j h. text_byte_same j (omega (arith, text_length_le f i)))
        ∙ ap (λ (n : ℕ). take n (drop (k * 32 + 8) g)) text_length_same
