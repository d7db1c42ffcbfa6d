-- What a conversion is worth. Assumes nothing.
use Rattle.std.specs.Prelude.{ℕ, ◌≤◌, ◌<◌, ◌≡◌, true, false, List, [], ◌++◌, length, drop}
use Rattle.tables.specs.Faults.{no_fault}
use Rattle.category.specs.Records.{count}
use Rattle.category.specs.Faults.{record_bad, file_fault, faultless}
use Rattle.category.specs.Labels.{has, text_of, label_of}
use Rattle.category_borrowed.specs.Files.{borrows, fault_of, valid}
use Rattle.category_borrowed.specs.Lookup.{text_for, label_for}
use Rattle.category_borrowed.specs.Converted.{converted, rewritten}
use Rattle.category_borrowed.specs.Answer.{convert_answer}

-- no record of the file has kind 1
abbrev pub NoneBorrows : List ℕ → Type 0
NoneBorrows file = (i : ℕ) → i < count file → borrows file i ≡ false

-- a file that is valid under document 01: `converts` of proofs/Worth.antt shows that its conversion is so
pub record Converts (file : List ℕ) : Type 0 where
  -- the converted file is as long as the file
  pub size : length (converted file) ≡ length file
  -- it is faultless by the check as it is now
  pub good : faultless (converted file) ≡ true
  -- it has the same actions
  pub actions : (a : ℕ) → has (converted file) a ≡ has file a
  -- the text of an action in it, by the lookup as it is now, is the text that document 01's lookup gave in the file before
  pub text : (a : ℕ) → text_of (converted file) a ≡ text_for file a
  -- converting it again is granted, rewrites no record and writes the same bytes
  pub again : (room : List ℕ) → length file ≤ length room
      → convert_answer (converted file) room ≡ record { found = no_fault; rewritten = 0; room = converted file ++ drop (length file) room }

-- two such files: `labels_kept` of proofs/Worth.antt shows it
pub record LabelsKept (translation house : List ℕ) : Type 0 where
  -- the label of an action from both converted files, as it is now, is the label that document 01 gave from the files before
  pub label : (a : ℕ) → label_of (converted translation) (converted house) a ≡ label_for translation house a

-- a file without kind 1, in any condition: `as_it_was` of proofs/Worth.antt shows it
pub record AsItWas (file : List ℕ) : Type 0 where
  -- the check's answer is document 01's
  pub check : file_fault file ≡ fault_of file
  -- where that finds no fault, the file is converted to itself and no record is rewritten
  pub unchanged : valid file ≡ true → (converted file ≡ file) × (rewritten file ≡ 0)
  -- and the text of an action is the one that document 01's lookup gave
  pub text : valid file ≡ true → (a : ℕ) → text_of file a ≡ text_for file a

-- a record of kind 1 outside the converter, in any file: `retired` of proofs/Worth.antt shows it
pub record Retired (file : List ℕ) (i : ℕ) : Type 0 where
  -- it is faulty, however good its lender is
  pub faulty : record_bad file i ≡ true
  -- so its file gives no label, and takes away the other file's
  pub translation : (house : List ℕ) (a : ℕ) → label_of file house a ≡ []
  pub house : (translation : List ℕ) (a : ℕ) → label_of translation file a ≡ []
