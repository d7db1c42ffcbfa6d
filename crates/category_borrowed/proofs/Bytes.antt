-- The bytes of the converted file of a valid one, record by record: those of the record where it borrows no text; else its action, zeros, and
-- the text of its lender. Assumes nothing.
use mathlib.Core.Path.{◌≡◌, sym, ap, ◌∙◌, subst}
use mathlib.Core.Bool.{true, false}
use mathlib.Core.Logic.{⊎_elim}
use mathlib.Core.List.{List, [], ◌++◌}
use Prim.Native.Nat.{ℕ, ◌+◌, ◌-◌, ◌*◌, ◌≤◌, ◌<◌}
use native.Mathlib.Omega.{arith}
use lib.ListN.{length, get_or, take, drop, replicate, length-append, get_or-replicate, get_or-append}
use Rattle.tables.proofs.Counts.{record_inside}
use Rattle.tables.proofs.Parts.{length_part, get_d_part, get_d_after}
use Rattle.tables.proofs.Laid.{laid_byte}
use Rattle.tables.proofs.Tests.{passed, if_true, if_false}
use Rattle.category.specs.Records.{count}
use Rattle.category_borrowed.specs.Files.{borrows, valid}
use Rattle.category_borrowed.specs.Lookup.{source_at}
use Rattle.category_borrowed.specs.Converted.{with_text, converted_record, converted}
use Rattle.category_borrowed.proofs.Valid.{source_own}
use Rattle.category_borrowed.proofs.Blocks.{length_record}
use Rattle.category_borrowed.proofs.Same.{Same}

-- a record with another's text
module _ (file : List ℕ) (i s : ℕ) (l : i < count file) where
  abbrev head : List ℕ
  head = take 2 (drop (i * 32) file)

  abbrev front : List ℕ
  front = head ++ replicate 6 0

  length_head : length head ≡ 2
  length_head = length_part 2 (i * 32) file (omega (arith, record_inside 32 (length file) i l))

  length_front : length front ≡ 8
  length_front = length-append head (replicate 6 0) ∙ ap (λ (x : ℕ). x + 6) length_head

  front_byte : (j : ℕ) → j < 8 → get_or (with_text file i s) j 0 ≡ get_or front j 0
  unfolding with_text
  front_byte j h = get_or-append front (take 24 (drop (s * 32 + 8) file)) 0 j (omega (arith, length_front))

  action_byte : (j : ℕ) → j < 2 → get_or (with_text file i s) j 0 ≡ get_or file (i * 32 + j) 0
  action_byte j h =
      front_byte j (omega arith) ∙ get_or-append head (replicate 6 0) 0 j (omega (arith, length_head)) ∙ get_d_part 2 (i * 32) file j h

  zero_byte : (j : ℕ) → 2 ≤ j → j < 8 → get_or (with_text file i s) j 0 ≡ 0
  zero_byte j g h = front_byte j h ∙ get_d_after head (replicate 6 0) 2 j length_head g ∙ get_or-replicate 6 (j - 2) 0 0 (omega arith)

  text-byte : (j : ℕ) → 8 ≤ j → j < 32 → get_or (with_text file i s) j 0 ≡ get_or file (s * 32 + j) 0
  unfolding with_text
  text-byte j g h =
      let p : s * 32 + 8 + (j - 8) ≡ s * 32 + j = omega arith in
      get_d_after front (take 24 (drop (s * 32 + 8) file)) 8 j length_front g
      ∙ get_d_part 24 (s * 32 + 8) file (j - 8) (omega arith)
      ∙ ap (λ (x : ℕ). get_or file x 0) p

module _ (file : List ℕ) (v : valid file ≡ true) where
  module _ (i : ℕ) (l : i < count file) where
    record_byte : (j : ℕ) → j < 32 → get_or (converted file) (i * 32 + j) 0 ≡ get_or (converted_record file i) j 0
    unfolding converted
    record_byte j h = laid_byte (converted_record file) 32 (count file) (length_record file v) i l j h

    -- one that borrows no text, and one that does
    own_byte : borrows file i ≡ false → (j : ℕ) → j < 32 → get_or (converted file) (i * 32 + j) 0 ≡ get_or file (i * 32 + j) 0
    unfolding converted_record
    own_byte b j h = record_byte j h ∙ ap (λ (x : List ℕ). get_or x j 0) (if_false _ _ _ b) ∙ get_d_part 32 (i * 32) file j h

    borrower_byte : borrows file i ≡ true → (j : ℕ) → j < 32
        → get_or (converted file) (i * 32 + j) 0 ≡ get_or (with_text file i (source_at file i)) j 0
    unfolding converted_record
    borrower_byte b j h = record_byte j h ∙ ap (λ (x : List ℕ). get_or x j 0) (if_true _ _ _ b)

    -- the action
    pub action_bytes : Same (converted file) i file i 0 2
    action_bytes = ⊎_elim borrower own (passed (borrows file i))
      where
        borrower : borrows file i ≡ true → Same (converted file) i file i 0 2
        borrower b = record { byte = λ j g h. borrower_byte b j (omega arith) ∙ action_byte file i (source_at file i) l j h }

        own : borrows file i ≡ false → Same (converted file) i file i 0 2
        own b = record { byte = λ j g h. own_byte b j (omega arith) }

    -- what stands between the action and the text
    pub zero_bytes : borrows file i ≡ true → Same (converted file) i [] 0 2 8
    zero_bytes b = record { byte = λ j g h. borrower_byte b j (omega arith) ∙ zero_byte file i (source_at file i) l j g h }

    pub kept_bytes : borrows file i ≡ false → Same (converted file) i file i 2 8
    kept_bytes b = record { byte = λ j g h. own_byte b j (omega arith) }

    -- the text
    pub text_bytes : Same (converted file) i file (source_at file i) 8 32
    text_bytes = ⊎_elim borrower own (passed (borrows file i))
      where
        borrower : borrows file i ≡ true → Same (converted file) i file (source_at file i) 8 32
        borrower b = record { byte = λ j g h. borrower_byte b j h ∙ text-byte file i (source_at file i) l j g h }

        own : borrows file i ≡ false → Same (converted file) i file (source_at file i) 8 32
        own b =
            subst (λ (s : ℕ). Same (converted file) i file s 8 32) (sym (source_own file i b)) (record { byte = λ j g h. own_byte b j h })
