-- The converted file. Document 02, F-6: "each kind 1 record has become kind 0 with lender 0 and the text it used to borrow and all other
-- records are the same". Assumes nothing.
use Rattle.std.specs.Prelude.{ℕ, ◌+◌, ◌*◌, cond, List, ◌++◌, take, drop, replicate}
use Rattle.tables.specs.Lists.{laid}
use Rattle.tables.specs.Below.{count_below}
use Rattle.category.specs.Records.{record_size, text_start, text_room, count}
use Rattle.category_borrowed.specs.Files.{borrows}
use Rattle.category_borrowed.specs.Lookup.{source_at}

-- record i with the text of record s: its action, six zero bytes (kind 0, lender 0 and what is spare), the 24 bytes of that text
unfoldable pub with_text : List ℕ → (i s : ℕ) → List ℕ
with_text file i s = take 2 (drop (i * record_size) file) ++ replicate 6 0 ++ take text_room (drop (s * record_size + text_start) file)

-- record i as it is written
unfoldable pub converted_record : List ℕ → ℕ → List ℕ
converted_record file i = cond (borrows file i) (with_text file i (source_at file i)) (take record_size (drop (i * record_size) file))

-- the whole file as it is written
unfoldable pub converted : List ℕ → List ℕ
converted file = laid (converted_record file) (count file)

-- how many records are rewritten: those of kind 1
unfoldable pub rewritten : List ℕ → ℕ
rewritten file = count_below (borrows file) (count file)
