-- What a conversion is worth: the theorem. Assumes nothing.
use mathlib.Core.Path.{◌≡◌, sym, ap, ◌∙◌}
use mathlib.Core.Bool.{true, and-false}
use mathlib.Core.List.{List, ◌++◌}
use Prim.Native.Nat.{ℕ, ◌≤◌, ◌<◌}
use native.Mathlib.Omega.{arith}
use lib.ListN.{length, drop}
use borrow.Author.Tests.{le-leb}
use Rattle.tables.specs.Faults.{no_fault}
use Rattle.category.specs.Records.{count}
use Rattle.category.specs.Faults.{faultless}
use Rattle.category.specs.Labels.{text_of, label_of}
use Rattle.category_borrowed.specs.Files.{borrows, valid}
use Rattle.category_borrowed.specs.Lookup.{label_for}
use Rattle.category_borrowed.specs.Converted.{converted}
use Rattle.category_borrowed.specs.Answer.{Answer, convert_answer}
use Rattle.category_borrowed.specs.Theorem.{NoneBorrows, Converts, LabelsKept, AsItWas, Retired}
use Rattle.category_borrowed.proofs.Blocks.{length_converted}
use Rattle.category_borrowed.proofs.Reading.{faultless_converted}
use Rattle.category_borrowed.proofs.Texts.{has_converted, text_converted}
use Rattle.category_borrowed.proofs.Unborrowed.{same_fault, same_valid, same_file, none_rewritten, faultless_none, borrower_bad, borrower_faulty}

-- granted, with no record rewritten
abbrev unchanged : List ℕ → ℕ → List ℕ → Answer
unchanged file n room = record { found = no_fault; rewritten = 0; room = file ++ drop n room }

-- a file that is faultless now is converted to itself
again_same : (file : List ℕ) → faultless file ≡ true → (room : List ℕ) → length file ≤ length room
    → convert_answer file room ≡ unchanged file (length file) room
unfolding convert_answer
again_same file g room h = rw (v, le-leb (length file) (length room) h, none_rewritten file n, same_file file n v)
  where
    n : NoneBorrows file
    n = faultless_none file g

    v : valid file ≡ true
    v = sym (same_valid file n) ∙ g

pub converts : (file : List ℕ) → valid file ≡ true → Converts file
converts file v =
    record {
      size = size;
      good = good;
      actions = has_converted file v;
      text = text_converted file v;
      again = λ room h. again_same (converted file) good room (omega (arith, size)) ∙ ap (λ (n : ℕ). unchanged (converted file) n room) size;
    }
  where
    size : length (converted file) ≡ length file
    size = length_converted file v

    good : faultless (converted file) ≡ true
    good = faultless_converted file v

pub labels_kept : (translation house : List ℕ) → valid translation ≡ true → valid house ≡ true → LabelsKept translation house
unfolding label_of label_for
labels_kept t h v w =
    record {
      label = λ a. rw (faultless_converted t v, faultless_converted h w, v, w, has_converted t v a, text_converted t v a, text_converted h w a);
    }

pub as_it_was : (file : List ℕ) → NoneBorrows file → AsItWas file
as_it_was file n =
    record {
      check = same_fault file n;
      unchanged = λ v. (same_file file n v, none_rewritten file n);
      text = λ v a. ap (λ (f : List ℕ). text_of f a) (sym (same_file file n v)) ∙ text_converted file v a;
    }

pub retired : (file : List ℕ) (i : ℕ) → i < count file → borrows file i ≡ true → Retired file i
unfolding label_of
retired file i l e =
    record {
      faulty = borrower_bad file i e;
      translation = λ house a. rw (borrower_faulty file i l e);
      house = λ translation a. rw (borrower_faulty file i l e, and-false (faultless translation));
    }
