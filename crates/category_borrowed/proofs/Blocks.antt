-- The lengths of the records that are written: each is as long as a record, so that the converted file is as long as the file. Assumes
-- nothing.
use mathlib.Core.Path.{◌≡◌, sym, ◌∙◌}
use mathlib.Core.Bool.{Bool, true, false, cond}
use mathlib.Core.List.{List}
use Prim.Native.Nat.{ℕ, ◌+◌, ◌*◌, ◌≤◌, ◌<◌}
use native.Mathlib.Nat.{lt_of_lt_of_le}
use native.Mathlib.Omega.{arith}
use lib.ListN.{length, take, drop, length-append}
use Rattle.tables.specs.Lists.{laid}
use Rattle.tables.proofs.Counts.{record_inside}
use Rattle.tables.proofs.Parts.{length_part}
use Rattle.tables.proofs.Laid.{laid_whole}
use Rattle.category.specs.Records.{count}
use Rattle.category_borrowed.specs.Files.{borrows, valid}
use Rattle.category_borrowed.specs.Lookup.{source_at}
use Rattle.category_borrowed.specs.Converted.{with_text, converted_record, converted}
use Rattle.category_borrowed.proofs.Valid.{valid_length, source_inside}

-- a record with another's text
length_with_text : (file : List ℕ) (i s : ℕ) → i < count file → s < count file → length (with_text file i s) ≡ 32
unfolding with_text
length_with_text file i s l m =
    simp (
      length-append,
      length_part 2 (i * 32) file (omega (arith, record_inside 32 (length file) i l)),
      length_part 24 (s * 32 + 8) file (omega (arith, record_inside 32 (length file) s m)),
    )

-- a record as it is
length_own : (file : List ℕ) (i : ℕ) → i < count file → length (take 32 (drop (i * 32) file)) ≡ 32
length_own file i l = length_part 32 (i * 32) file (record_inside 32 (length file) i l)

module _ (file : List ℕ) (v : valid file ≡ true) where
  pub length_record : (i : ℕ) → i < count file → length (converted_record file i) ≡ 32
  unfolding converted_record
  length_record i l = by (borrows file i)
    where
      by : (b : Bool) → length (cond b (with_text file i (source_at file i)) (take 32 (drop (i * 32) file))) ≡ 32
      by true = length_with_text file i (source_at file i) l (source_inside file v i l)
      by false = length_own file i l

  pub length_to : (n : ℕ) → n ≤ count file → length (laid (converted_record file) n) ≡ n * 32
  length_to n h = laid_whole (converted_record file) 32 n (λ i l. length_record i (lt_of_lt_of_le l h))

  pub length_converted : length (converted file) ≡ length file
  unfolding converted
  length_converted = length_to (count file) (omega arith) ∙ sym (valid_length file v)
