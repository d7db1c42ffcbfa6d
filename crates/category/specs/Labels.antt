-- The search in one file, the text of an action there, and the label from two files. Document 01: "The label of an action comes from the
-- translation if that has the action, otherwise from the house file". Document 02, F-3, the search: "stop at the first record whose action
-- is equal or greater. By itself, over records in any order, it answers that record if equal and otherwise nothing". Assumes nothing.
use Rattle.std.specs.Prelude.{ℕ, ◌+◌, ◌*◌, Bool, cond, ◌&&◌, List, [], take, drop, eqb, leb, ltb}
use Rattle.tables.specs.Below.{some_below}
use Rattle.tables.specs.Lists.{first}
use Rattle.category.specs.Records.{record_size, text_start, count, action_at, text_length, has_action}
use Rattle.category.specs.Faults.{faultless}
use Rattle.category.specs.declared.LabelPlace.{LabelPlace}

-- the text of record i, padding left off
unfoldable pub own_text : List ℕ → ℕ → List ℕ
own_text file i = take (text_length file i) (drop (i * record_size + text_start) file)

-- some record of the file has the action a
unfoldable pub has : List ℕ → ℕ → Bool
has file a = some_below (has_action file a) (count file)

-- record i has the action a or a greater one
unfoldable pub reaches : List ℕ → ℕ → ℕ → Bool
reaches file a i = leb a (action_at file i)

-- where the search for the action a stops: at the first record that has it or a greater one, at the end where there is none
unfoldable pub stop_of : List ℕ → ℕ → ℕ
stop_of file a = first (reaches file a) (count file)

-- what the search for the action a answers: the record where it stops, if that has the action; nothing is the number of records
unfoldable pub record_of : List ℕ → ℕ → ℕ
record_of file a = cond (ltb (stop_of file a) (count file) && has_action file a (stop_of file a)) (stop_of file a) (count file)

-- where the text of the action a starts in the file: 0 where the search answers nothing
unfoldable pub text_offset : List ℕ → ℕ → ℕ
text_offset file a = cond (ltb (record_of file a) (count file)) (record_of file a * record_size + text_start) 0

-- its length: 0 where the search answers nothing
unfoldable pub text_size : List ℕ → ℕ → ℕ
text_size file a = cond (ltb (record_of file a) (count file)) (text_length file (record_of file a)) 0

-- the text of the action a in one file, in any condition: that of the record which the search answers, whatever its kind byte; else empty
unfoldable pub text_of : List ℕ → ℕ → List ℕ
text_of file a = take (text_size file a) (drop (text_offset file a) file)

-- the label of the action a: empty where a file is faulty or there is no record
unfoldable pub label_of : (translation house : List ℕ) → ℕ → List ℕ
label_of translation house a =
    cond (faultless translation && faultless house) (cond (has translation a) (text_of translation a) (text_of house a)) []

-- the place of a label: the file's number, 0 the translation and 1 the house file, offset and length
unfoldable pub place_in : ℕ → List ℕ → ℕ → LabelPlace
place_in number file a = record { file = number; offset = text_offset file a; length = text_size file a }

-- no label
unfoldable pub nowhere : LabelPlace
nowhere = record { file = 0; offset = 0; length = 0 }

-- the place of the label of the action a, all zero for none
unfoldable pub place_of : (translation house : List ℕ) → ℕ → LabelPlace
place_of translation house a =
    cond
    (faultless translation && faultless house)
    (cond (has translation a) (place_in 0 translation a) (cond (has house a) (place_in 1 house a) nowhere))
    nowhere

-- the file that a place's number names
unfoldable pub file_of {ℓ} : {A : Type ℓ} → ℕ → (translation house : A) → A
file_of number translation house = cond (eqb number 0) translation house

-- the bytes at a place of the two files
unfoldable pub bytes_at : (translation house : List ℕ) → LabelPlace → List ℕ
bytes_at translation house p = take p.length (drop p.offset (file_of p.file translation house))
