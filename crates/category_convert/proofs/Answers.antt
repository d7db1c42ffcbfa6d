-- The answers of the conversion. Assumes nothing.
use mathlib.Core.Path.{◌≡◌, refl, sym, ap, ◌∙◌}
use mathlib.Core.Bool.{true, false}
use mathlib.Core.List.{List, ◌++◌}
use Prim.Native.Nat.{ℕ, ◌≤◌, ◌<◌}
use native.Mathlib.Omega.{arith}
use lib.ListN.{length, drop}
use lib.Dec.{eqb}
use borrow.Author.Tests.{le-leb, lt-leb}
use Rattle.std.proofs.Common.{Result, Ok, Err, Some, None}
use Rattle.tables.specs.declared.TableFault.{TableFault}
use Rattle.tables.specs.declared.TableFault.TheVariants.{Size, Record}
use Rattle.tables.specs.Lists.{first}
use Rattle.tables.specs.Sizes.{records_of}
use Rattle.tables.specs.Faults.{Fault, fault}
use Rattle.tables.specs.Checks.{told, answered}
use Rattle.tables.proofs.Counts.{whole_count}
use Rattle.tables.proofs.Scans.{scan_size, scan_record, scan_good}
use Rattle.tables.proofs.Tests.{if_false}
use Rattle.category.specs.Records.{count}
use Rattle.category.specs.Faults.{checked}
use Rattle.category_borrowed.specs.Files.{faulty_at, fault_of, valid}
use Rattle.category_borrowed.specs.Converted.{converted, rewritten}
use Rattle.category_borrowed.specs.Answer.{Answer, convert_answer}
use Rattle.category_convert.specs.Result.{found_of, rewritten_of, answer_of}
use Rattle.category_convert.specs.declared.ConvertRefusal.{ConvertRefusal}
use Rattle.category_convert.specs.declared.ConvertRefusal.TheVariants.{Table, Short}

-- ---- the check of a file

pub told_size : (file : List ℕ) → records_of 32 0 2000 (length file) ≡ None → checked (Err Size) ≡ fault_of file
unfolding checked answered told fault_of
told_size file e = scan_size 9 10 32 0 2000 (faulty_at file) (length file) e

module _ (file : List ℕ) (n : ℕ) (e : records_of 32 0 2000 (length file) ≡ Some n) where
  whole : records_of 32 0 2000 (length file) ≡ Some (count file)
  whole = e ∙ ap (λ (k : ℕ). Some k) (whole_count 32 0 2000 (length file) n e)

  pub told_record : (b : ℕ) → b < count file → first (faulty_at file) (count file) ≡ b → checked (Err (Record b)) ≡ fault_of file
  unfolding checked answered told fault_of
  told_record b l p = scan_record 9 10 32 0 2000 (faulty_at file) (length file) (count file) b whole (sym p) l

  pub told_good : first (faulty_at file) (count file) ≡ count file → checked (Ok (tt {0})) ≡ fault_of file
  unfolding checked answered fault_of
  told_good p = scan_good 9 10 32 0 2000 (faulty_at file) (length file) (count file) (count file) whole (sym p) (omega arith)

-- ---- the conversion

module _ (file : List ℕ) where
  -- where the check finds a fault
  pub refused_table : (room : List ℕ) (f : TableFault) → checked (Err f) ≡ fault_of file → answer_of (Err (Table f)) room ≡ convert_answer file room
  unfolding checked answered told found_of rewritten_of answer_of convert_answer valid
  refused_table room f e = ap with e ∙ sym (if_false _ _ _ (ap (λ (g : Fault). eqb g.number 0) (sym e) ∙ at f))
    where
      with : Fault → Answer
      with g = record { found = g; rewritten = 0; room = room }

      at : (g : TableFault) → eqb (told 9 10 g).number 0 ≡ false
      at Size = refl
      at (Record r) = refl

  -- where it finds none
  pub passed : (u : Unit {0}) → checked (Ok u) ≡ fault_of file → valid file ≡ true
  unfolding checked answered valid
  passed u e = ap (λ (f : Fault). eqb f.number 0) (sym e)

  module _ (v : valid file ≡ true) (room : List ℕ) where
    -- the room is too short
    pub refused_short : length room < length file → answer_of (Err Short) room ≡ convert_answer file room
    unfolding answer_of found_of rewritten_of convert_answer
    refused_short l = rw (v, lt-leb (length file) (length room) l)

    -- it is not
    pub converts : (k : ℕ) {r : List ℕ} → length file ≤ length room → r ≡ converted file ++ drop (length file) room → k ≡ rewritten file
        → answer_of (Ok k) r ≡ convert_answer file room
    unfolding answer_of found_of rewritten_of convert_answer
    converts k l p q = rw (v, le-leb (length file) (length room) l, p, q)

-- ---- the numbers of a refusal

module _ (a : Result ℕ ConvertRefusal) (e : ConvertRefusal) (p : a ≡ Err e) where
  pub table_told : (f : TableFault) → e ≡ Table f → (checked (Err f) ≡ found_of a) × (0 ≡ rewritten_of a)
  unfolding checked answered found_of rewritten_of
  table_told f q = (rw (p, q), rw p)

  pub short_told : e ≡ Short → (fault 12 0 ≡ found_of a) × (0 ≡ rewritten_of a)
  unfolding found_of rewritten_of
  short_told q = (rw (p, q), rw p)
