-- Category records, 32 bytes each. Document 01: action 2, kind 1, zero 1, lender 2, two zero bytes, text 24. All of it is about files
-- in any condition: what stands past a file's end reads as zero. Assumes nothing.
use Rattle.std.specs.Prelude.{ℕ, ◌+◌, ◌*◌, ◌/◌, Bool, ◌&&◌, List, length, get_or, eqb}
use Rattle.tables.specs.Bytes.{field}
use Rattle.tables.specs.Lists.{first}

-- the bytes of a record
abbrev pub record_size : ℕ
record_size = 32

-- where its text starts
abbrev pub text_start : ℕ
text_start = 8

-- the bytes that its text has, with the padding
abbrev pub text_room : ℕ
text_room = 24

-- the number of whole records
abbrev pub count : List ℕ → ℕ
count file = length file / record_size

-- the action of record i
unfoldable pub action_at : List ℕ → ℕ → ℕ
action_at file i = field 2 (i * record_size) file

-- its kind byte: 0, since document 02 (F-6) retired kind 1, which borrowed a text
unfoldable pub kind_at : List ℕ → ℕ → ℕ
kind_at file i = get_or file (i * record_size + 2) 0

-- its lender: 0, as only kind 1 had one
unfoldable pub lender_at : List ℕ → ℕ → ℕ
lender_at file i = field 2 (i * record_size + 4) file

-- byte j of the text of record i
unfoldable pub text_byte : List ℕ → ℕ → ℕ → ℕ
text_byte file i j = get_or file (i * record_size + text_start + j) 0

-- the three bytes of record i that have no use are zero
unfoldable pub spare_zero : List ℕ → ℕ → Bool
spare_zero file i = eqb (get_or file (i * record_size + 3) 0) 0 && eqb (field 2 (i * record_size + 6) file) 0

-- how many bytes of the text of record i stand before the first zero byte: 24 where there is none
unfoldable pub text_length : List ℕ → ℕ → ℕ
text_length file i = first (λ j. eqb (text_byte file i j) 0) text_room

-- record i has the action a
unfoldable pub has_action : List ℕ → ℕ → ℕ → Bool
has_action file a i = eqb (action_at file i) a
