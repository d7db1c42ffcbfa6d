-- Document 01's lookup in one file and its label from two, where a record of kind 1 has the text of its lender. Assumes nothing.
use Rattle.std.specs.Prelude.{ℕ, cond, ◌&&◌, List, [], ltb}
use Rattle.tables.specs.Lists.{first}
use Rattle.category.specs.Records.{count, lender_at, has_action}
use Rattle.category.specs.Labels.{own_text, has}
use Rattle.category_borrowed.specs.Files.{borrows, lends_at, valid}

-- the record that lends the text of the action a; the number of records where there is none
unfoldable pub lender_for : List ℕ → ℕ → ℕ
lender_for file a = first (lends_at file a) (count file)

-- the record that record i takes its text from: at kind 1 its lender's, else itself
unfoldable pub source_at : List ℕ → ℕ → ℕ
source_at file i = cond (borrows file i) (lender_for file (lender_at file i)) i

-- the record that has the text of the action a; the number of records where there is none
unfoldable pub source_for : List ℕ → ℕ → ℕ
source_for file a = cond (has file a) (source_at file (first (has_action file a) (count file))) (count file)

-- the text of the action a in one file: empty where there is none
unfoldable pub text_for : List ℕ → ℕ → List ℕ
text_for file a = cond (ltb (source_for file a) (count file)) (own_text file (source_for file a)) []

-- the label of the action a from two files: empty where a file is not valid or there is no record
unfoldable pub label_for : (translation house : List ℕ) → ℕ → List ℕ
label_for translation house a =
    cond (valid translation && valid house) (cond (has translation a) (text_for translation a) (text_for house a)) []
