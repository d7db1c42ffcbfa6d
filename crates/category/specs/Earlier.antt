-- The lookup as it was defined before document 02's F-3, which read on to the file's end, and what that request asks: "Labels are as
-- before". Borrowed texts, which F-6 ended, stand in `category_borrowed`. No contract cites the earlier definition. Assumes nothing.
use Rattle.std.specs.Prelude.{ℕ, ◌+◌, ◌*◌, ◌<◌, ◌≡◌, true, cond, ◌&&◌, List, [], take, drop}
use Rattle.tables.specs.Lists.{first}
use Rattle.category.specs.Records.{record_size, text_start, count, text_length, has_action}
use Rattle.category.specs.Faults.{ascends, faultless}
use Rattle.category.specs.Labels.{has, text_offset, text_of, label_of, nowhere, place_of}
use Rattle.category.specs.declared.LabelPlace.{LabelPlace}

-- ---- the earlier definition

-- the lowest record of the action a; the number of records where there is none
unfoldable pub earlier_record : List ℕ → ℕ → ℕ
earlier_record file a = first (has_action file a) (count file)

-- where its text starts in the file: 0 where there is none
unfoldable pub earlier_offset : List ℕ → ℕ → ℕ
earlier_offset file a = cond (has file a) (earlier_record file a * record_size + text_start) 0

-- its length: 0 where there is none
unfoldable pub earlier_size : List ℕ → ℕ → ℕ
earlier_size file a = cond (has file a) (text_length file (earlier_record file a)) 0

-- the text of the action a in one file
unfoldable pub earlier_text : List ℕ → ℕ → List ℕ
earlier_text file a = take (earlier_size file a) (drop (earlier_offset file a) file)

-- the label of the action a
unfoldable pub earlier_label : (translation house : List ℕ) → ℕ → List ℕ
earlier_label translation house a =
    cond (faultless translation && faultless house) (cond (has translation a) (earlier_text translation a) (earlier_text house a)) []

-- the place of a label
unfoldable pub earlier_place_in : ℕ → List ℕ → ℕ → LabelPlace
earlier_place_in number file a = record { file = number; offset = earlier_offset file a; length = earlier_size file a }

-- the place of the label of the action a, all zero for none
unfoldable pub earlier_place : (translation house : List ℕ) → ℕ → LabelPlace
earlier_place translation house a =
    cond
    (faultless translation && faultless house)
    (cond (has translation a) (earlier_place_in 0 translation a) (cond (has house a) (earlier_place_in 1 house a) nowhere))
    nowhere

-- ---- labels are as before

-- `as_before` of proofs/Earlier.antt shows that all of it is so
pub record AsBefore : Type 0 where
  -- the label of every action from two files, bytes and place (file, offset and length): from faultless ones, and from faulty ones too,
  -- which give none
  pub label : (translation house : List ℕ) (a : ℕ) → label_of translation house a ≡ earlier_label translation house a
  pub place : (translation house : List ℕ) (a : ℕ) → place_of translation house a ≡ earlier_place translation house a
  -- the text of every action in one file whose actions ascend, bytes and offset
  pub text : (file : List ℕ) → ((i : ℕ) → i < count file → ascends file i ≡ true) → (a : ℕ) → text_of file a ≡ earlier_text file a
  pub offset : (file : List ℕ) → ((i : ℕ) → i < count file → ascends file i ≡ true) → (a : ℕ) → text_offset file a ≡ earlier_offset file a
