-- Category files by the fields of their records. Assumes nothing.
use Rattle.std.specs.Prelude.{ℕ, zero, suc, ◌+◌, ◌*◌, ◌%◌, List, [], ◌∷◌, ◌++◌, replicate}
use Rattle.std.proofs.lemmas.List.Edits.{sets}
use Rattle.sample_bytes.specs.Bytes.{bytes}

-- a category record: its text stands from byte 8 on, as far as the record goes
unfoldable pub record_of : (action kind lender : ℕ) (text : List ℕ) → List ℕ
unfolding bytes
record_of action kind lender text = sets (bytes 2 action ++ (kind ∷ 0 ∷ []) ++ bytes 2 lender ++ replicate 26 0) 8 text

-- a file with its first n records written: record i has the action i and one letter, A to Z in turn
unfoldable pub filled : ℕ → List ℕ → List ℕ
filled zero file = file
filled (suc i) file = sets (filled i file) (i * 32) (record_of i 0 0 ((65 + i % 26) ∷ []))
