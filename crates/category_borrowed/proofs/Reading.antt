-- What is read in the converted file of a valid one: the actions are the same, each record has kind 0, and its text is the one that it had by
-- document 01. So the converted file is faultless. Assumes nothing.
use mathlib.Core.Path.{◌≡◌, refl, ap, ap₂, ◌∙◌, subst}
use mathlib.Core.Bool.{true, false, not, ◌||◌}
use mathlib.Core.Logic.{⊎_elim}
use mathlib.Core.List.{List, []}
use Prim.Native.Nat.{ℕ, ◌-◌, ◌/◌, ◌<◌}
use native.Mathlib.Omega.{arith}
use lib.ListN.{length}
use lib.Dec.{eqb, ltb}
use borrow.Author.Tests.{eqb-true, eq-eqb}
use Rattle.tables.specs.Bytes.{little, field}
use Rattle.tables.specs.Sizes.{sized}
use Rattle.tables.specs.Faults.{Fault, no_fault}
use Rattle.tables.proofs.Scans.{scan_clear}
use Rattle.tables.proofs.Tests.{passed, and_left, and_right, and_intro}
use Rattle.category.specs.Records.{count, action_at, kind_at, lender_at, spare_zero}
use Rattle.category.specs.Faults.{ascends, text_good, own_good, record_bad, file_fault, faultless}
use Rattle.category_borrowed.specs.Files.{borrows, valid}
use Rattle.category_borrowed.specs.Lookup.{source_at}
use Rattle.category_borrowed.specs.Converted.{converted}
use Rattle.category_borrowed.proofs.Valid.{valid_sized, valid_ascends, valid_spare, own_kind, own-good, source_inside, source_kind}
use Rattle.category_borrowed.proofs.Blocks.{length_converted}
use Rattle.category_borrowed.proofs.Same.{Same, action_same, kind_same, lender_same, spare_same, text_good_same}
use Rattle.category_borrowed.proofs.Bytes.{action_bytes, zero_bytes, kept_bytes, text_bytes}

-- what stands between the action and the text of a record is all zero
record Plain (f : List ℕ) (i : ℕ) : Type 0 where
  kind : kind_at f i ≡ 0
  lender : lender_at f i ≡ 0
  spare : spare_zero f i ≡ true

plain_none : Plain [] 0
unfolding kind_at lender_at spare_zero field little
plain_none = record { kind = refl; lender = refl; spare = refl }

plain_same : {f : List ℕ} {i : ℕ} {g : List ℕ} {k : ℕ} → Same f i g k 2 8 → Plain g k → Plain f i
plain_same s p = record { kind = kind_same s ∙ p.kind; lender = lender_same s ∙ p.lender; spare = spare_same s ∙ p.spare }

module _ (file : List ℕ) (v : valid file ≡ true) where
  pub count_converted : count (converted file) ≡ count file
  count_converted = ap (λ (n : ℕ). n / 32) (length_converted file v)

  -- record i
  module _ (i : ℕ) (l : i < count file) where
    pub action_converted : action_at (converted file) i ≡ action_at file i
    action_converted = action_same (action_bytes file v i l)

    plain : Plain (converted file) i
    unfolding own_good
    plain =
        ⊎_elim (λ b. plain_same (zero_bytes file v i l b) plain_none) (λ b. plain_same (kept_bytes file v i l b) (own b)) (passed (borrows file i))
      where
        own : borrows file i ≡ false → Plain file i
        own b =
            let k : kind_at file i ≡ 0 = own_kind file v i l b in
            record {
              kind = k;
              lender = eqb-true (lender_at file i) 0 (and_left _ (text_good file i) (own-good file v i l k));
              spare = valid_spare file v i l;
            }

    own_converted : own_good (converted file) i ≡ true
    unfolding own_good
    own_converted = and_intro _ (text_good (converted file) i) (eq-eqb _ 0 plain.lender) (text_good_same (text_bytes file v i l) ∙ good)
      where
        s : ℕ
        s = source_at file i

        good : text_good file s ≡ true
        good = and_right (eqb (lender_at file s) 0) (text_good file s) (own-good file v s (source_inside file v i l) (source_kind file v i l))

  ascends_converted : (i : ℕ) → i < count file → ascends (converted file) i ≡ ascends file i
  unfolding ascends
  ascends_converted i l = ap₂ (λ (x y : ℕ). eqb i 0 || ltb x y) (action_converted (i - 1) (omega arith)) (action_converted i l)

  record_converted : (i : ℕ) → i < count file → record_bad (converted file) i ≡ false
  unfolding record_bad
  record_converted i l =
      ap not
      (and_intro _ (own_good (converted file) i)
      (and_intro _ (eqb (kind_at (converted file) i) 0)
      (and_intro _ (spare_zero (converted file) i) (ascends_converted i l ∙ valid_ascends file v i l) (plain i l).spare)
      (eq-eqb _ 0 (plain i l).kind))
      (own_converted i l))

  no-fault : file_fault (converted file) ≡ no_fault
  unfolding file_fault
  no-fault =
      scan_clear 9 10 32 0 2000 (record_bad (converted file)) (length (converted file))
      (ap (sized 32 0 2000) (length_converted file v) ∙ valid_sized file v)
      (λ k l. record_converted k (subst (λ (n : ℕ). k < n) count_converted l))

  pub faultless_converted : faultless (converted file) ≡ true
  unfolding faultless
  faultless_converted = ap (λ (f : Fault). eqb f.number 0) no-fault
