-- The new table of formulas: which record stands where, that it passes the input checks, and that its records are the same formulas.
-- Assumes nothing.
use mathlib.Core.Path.{◌≡◌, refl, sym, ap, ap₂, ◌∙◌, subst}
use mathlib.Core.Bool.{Bool, true, false, cond, not, ◌&&◌, ◌||◌}
use mathlib.Core.List.{List, [], ◌++◌}
use Prim.Native.Nat.{ℕ, zero, suc, ◌+◌, ◌*◌, ◌/◌, ◌%◌, ◌≤◌, ◌<◌}
use native.Mathlib.Nat.{not-suc-le-zero, le_refl, lt_of_le_of_lt}
use native.Mathlib.Omega.{arith}
use lib.ListN.{length}
use lib.Dec.{eqb, leb}
use borrow.Author.Tests.{eq-eqb, le-leb, lt-ltb, ltb-true, not-false}
use Rattle.tables.specs.Lists.{laid}
use Rattle.tables.specs.Sizes.{sized}
use Rattle.tables.proofs.Tests.{and_left, and_right, and_intro, if_true}
use Rattle.tables.proofs.Numbers.{Bytes, field_lt}
use Rattle.tables.proofs.Counts.{sized_most}
use Rattle.tables.proofs.Below.{count_most, count_above, count_at}
use Rattle.tables.proofs.Laid.{laid_length, laid_at}
use Rattle.pctl.specs.Table.{formula_size, operator_at, spare_at, left_at, right_at, action_at, record_at, formulas, has_left, has_right, has_action, operand_good, fields_good, formula_bad, formulas_sized}
use Rattle.pctl.specs.Lower.{Lower}
use Rattle.pctl.specs.Formula.{build, read_to, formula}
use Rattle.pctl.specs.Written.{formula_bytes}
use Rattle.pctl.proofs.Formulas.{build_same, left_lower, right_lower, read_same}
use Rattle.pctl.proofs.Written.{formula_length, FormulaFits, formula_read, spare_read}
use Rattle.compact_tables.specs.Reached.{reached}
use Rattle.compact_tables.specs.Tables.{new_number, operand_by, record_by, kept_record, new_formulas_lem, kept_count}
use Rattle.compact_tables.proofs.Reaching.{names_left, names_right, reached_self, reached_operand}
use Rattle.compact_tables.proofs.Children.{SameRecord}

-- a new number is no higher
pub number_most : (F : List ℕ) (f k : ℕ) → new_number F f k ≤ k
unfolding new_number
number_most F f k = count_most (reached F f) k

pub number_zero : (F : List ℕ) (f : ℕ) → new_number F f 0 ≡ 0
number_zero F f = let l : new_number F f 0 ≤ 0 = number_most F f 0 in omega arith

-- an operand of a record is none or gets a new number
operand_most : (F : List ℕ) (f : ℕ) (has : Bool) (x : ℕ) → operand_by (new_number F f) has x ≤ x
unfolding operand_by
operand_most F f true x = number_most F f x
operand_most F f false x = le_refl x

-- ---- the bytes

record_length : (F : List ℕ) (f k : ℕ) → length (kept_record F f k) ≡ cond (reached F f k) formula_size 0
unfolding kept_record
record_length F f k = by (reached F f k)
  where
    by : (b : Bool) → length (cond b (formula_bytes (record_by (new_number F f) (record_at F k))) []) ≡ cond b formula_size 0
    by true = formula_length (record_by (new_number F f) (record_at F k))
    by false = refl

-- those of the first n records
front_length : (F : List ℕ) (f n : ℕ) → length (laid (kept_record F f) n) ≡ new_number F f n * formula_size
unfolding new_number
front_length F f n = laid_length (kept_record F f) (reached F f) formula_size n (λ k l. record_length F f k)

pub formulas_length : (F : List ℕ) (f : ℕ) → length (new_formulas_lem F f) ≡ kept_count F f * formula_size
unfolding new_formulas_lem new_number kept_count
formulas_length F f = front_length F f (formulas F)

-- as many records as are reached
pub new_count : (F : List ℕ) (f : ℕ) → formulas (new_formulas_lem F f) ≡ kept_count F f
unfolding formulas
new_count F f = ap (λ (n : ℕ). n / formula_size) (formulas_length F f) ∙ (let e : kept_count F f * 8 / 8 ≡ kept_count F f = omega arith in e)

module _ (F : List ℕ) (bytes : Bytes F) (few : formulas_sized F ≡ true) (low : Lower F) (f : ℕ) (inside : f < formulas F) where
  -- ---- the records

  record_fits : (k : ℕ) → FormulaFits (record_by (new_number F f) (record_at F k))
  unfolding record_by record_at operator_at left_at right_at action_at
  record_fits k =
      record {
        operator = field_lt 1 (k * 8) F bytes;
        left = lt_of_le_of_lt (operand_most F f _ _) (field_lt 2 (k * 8 + 2) F bytes);
        right = lt_of_le_of_lt (operand_most F f _ _) (field_lt 2 (k * 8 + 4) F bytes);
        action = field_lt 2 (k * 8 + 6) F bytes;
      }

  module _ (k : ℕ) (h : k < formulas F) (e : reached F f k ≡ true) where
    -- the table, with the record of k in its place
    stands : (rest : List ℕ) × (new_formulas_lem F f ≡ laid (kept_record F f) k ++ (formula_bytes (record_by (new_number F f) (record_at F k)) ++ rest))
    unfolding new_formulas_lem kept_record
    stands =
        let s = laid_at (kept_record F f) (formulas F) k h in
        (s.0, s.1 ∙ ap (λ x. laid (kept_record F f) k ++ (x ++ s.0)) (if_true (reached F f k) _ [] e))

    pub record_new : record_at (new_formulas_lem F f) (new_number F f k) ≡ record_by (new_number F f) (record_at F k)
    record_new =
        ap (λ l. record_at l (new_number F f k)) stands.1
        ∙ formula_read (laid (kept_record F f) k) stands.0 (new_number F f k) (record_by (new_number F f) (record_at F k)) (front_length F f k) (record_fits k)

    spare_new : spare_at (new_formulas_lem F f) (new_number F f k) ≡ 0
    spare_new =
        ap (λ l. spare_at l (new_number F f k)) stands.1
        ∙ spare_read (laid (kept_record F f) k) stands.0 (new_number F f k) (record_by (new_number F f) (record_at F k)) (front_length F f k)

    left_is : left_at (new_formulas_lem F f) (new_number F f k) ≡ operand_by (new_number F f) (has_left (operator_at F k)) (left_at F k)
    unfolding record_at record_by
    left_is = ap (λ x. x.left) record_new

    right_is : right_at (new_formulas_lem F f) (new_number F f k) ≡ operand_by (new_number F f) (has_right (operator_at F k)) (right_at F k)
    unfolding record_at record_by
    right_is = ap (λ x. x.right) record_new

    -- the same record, with the new numbers of its operands
    pub same_record : SameRecord (new_number F f) F (new_formulas_lem F f) k
    unfolding record_at record_by operand_by
    same_record =
        record {
          operator = ap (λ x. x.operator) record_new;
          left = λ q. left_is ∙ if_true (has_left (operator_at F k)) _ _ q;
          right = λ q. right_is ∙ if_true (has_right (operator_at F k)) _ _ q;
          action = ap (λ x. x.action) record_new;
        }

    -- ---- the operands of a reached record are reached

    pub left_reached : has_left (operator_at F k) ≡ true → reached F f (left_at F k) ≡ true
    left_reached q = reached_operand F low f inside k (left_at F k) e (names_left F k q)

    pub right_reached : has_right (operator_at F k) ≡ true → reached F f (right_at F k) ≡ true
    right_reached q = reached_operand F low f inside k (right_at F k) e (names_right F k q)

    -- and of lower number
    operand_new : (has : Bool) (x : ℕ) → (has ≡ true → reached F f x ≡ true) → operand_good has k x ≡ true
        → operand_good has (new_number F f k) (operand_by (new_number F f) has x) ≡ true
    unfolding operand_good operand_by new_number
    operand_new true x p g = lt-ltb (new_number F f x) (new_number F f k) (count_above (reached F f) x k (ltb-true x k g) (p refl))
    operand_new false x p g = g

    -- the new record is not at fault
    good_new : formula_bad (new_formulas_lem F f) (new_number F f k) ≡ false
    unfolding formula_bad fields_good Lower
    good_new =
        let op = operator_at F k in
        let t₁ : Bool = leb op 5 && eqb (spare_at F k) 0 in
        let t₂ : Bool = operand_good (has_left op) k (left_at F k) in
        let t₃ : Bool = operand_good (has_right op) k (right_at F k) in
        let t₄ : Bool = has_action op || eqb (action_at F k) 0 in
        let all : (t₁ && t₂ && t₃ && t₄) ≡ true = not-false (t₁ && t₂ && t₃ && t₄) (low k h) in
        let three : (t₁ && t₂ && t₃) ≡ true = and_left (t₁ && t₂ && t₃) t₄ all in
        let two : (t₁ && t₂) ≡ true = and_left (t₁ && t₂) t₃ three in
        ap not
        (fields
        ∙ and_intro _ _
        (and_intro _ _
        (and_intro _ _ (and_intro _ _ (and_left (leb op 5) (eqb (spare_at F k) 0) (and_left t₁ t₂ two)) (eq-eqb _ 0 refl))
        (operand_new (has_left op) (left_at F k) left_reached (and_right t₁ t₂ two)))
        (operand_new (has_right op) (right_at F k) right_reached (and_right (t₁ && t₂) t₃ three)))
        (and_right (t₁ && t₂ && t₃) t₄ all))
      where
        fields : fields_good (new_number F f k) (operator_at (new_formulas_lem F f) (new_number F f k)) (spare_at (new_formulas_lem F f) (new_number F f k))
            (left_at (new_formulas_lem F f) (new_number F f k)) (right_at (new_formulas_lem F f) (new_number F f k)) (action_at (new_formulas_lem F f) (new_number F f k))
            ≡ fields_good (new_number F f k) (operator_at F k) 0 (operand_by (new_number F f) (has_left (operator_at F k)) (left_at F k))
            (operand_by (new_number F f) (has_right (operator_at F k)) (right_at F k)) (action_at F k)
        fields = λ i. fields_good (new_number F f k) (same_record.operator i) (spare_new i) (left_is i) (right_is i) (same_record.action i)

    -- its number is in the new table
    pub number_inside : new_number F f k < formulas (new_formulas_lem F f)
    unfolding new_number kept_count
    number_inside = subst (λ (n : ℕ). new_number F f k < n) (sym (new_count F f)) (count_above (reached F f) k (formulas F) h e)

  -- ---- the table

  -- each record of the new table is the new one of a reached record
  pub old_number : (i : ℕ) → i < formulas (new_formulas_lem F f) → (k : ℕ) × (k < formulas F) × (reached F f k ≡ true) × (new_number F f k ≡ i)
  unfolding new_number kept_count
  old_number i h = count_at (reached F f) (formulas F) i (subst (λ (n : ℕ). i < n) (new_count F f) h)

  pub lower_new : Lower (new_formulas_lem F f)
  unfolding Lower
  lower_new i h =
      let o = old_number i h in
      subst (λ (x : ℕ). formula_bad (new_formulas_lem F f) x ≡ false) o.3 (good_new o.0 o.1 o.2)

  pub asked_inside : new_number F f f < formulas (new_formulas_lem F f)
  asked_inside = number_inside f inside (reached_self F f)

  pub sized_new : formulas_sized (new_formulas_lem F f) ≡ true
  unfolding formulas_sized sized formulas kept_count
  sized_new =
      let l : length (new_formulas_lem F f) ≡ kept_count F f * 8 = formulas_length F f in
      let least : new_number F f f < length (new_formulas_lem F f) / 8 = asked_inside in
      let most : kept_count F f ≤ formulas F = count_most (reached F f) (formulas F) in
      let old : formulas F ≤ 256 = sized_most 8 1 256 (length F) few in
      and_intro _ _ (and_intro _ _ (eq-eqb (length (new_formulas_lem F f) % 8) 0 (omega arith)) (le-leb 1 (length (new_formulas_lem F f) / 8) (omega arith)))
      (le-leb (length (new_formulas_lem F f) / 8) 256 (omega arith))

  -- ---- the formulas

  read_new : (d k : ℕ) → k < d → k < formulas F → reached F f k ≡ true → read_to d (new_formulas_lem F f) (new_number F f k) ≡ read_to d F k
  unfolding read_to
  read_new zero k l h e = absurd (not-suc-le-zero l)
  read_new (suc d) k l h e =
      ap₂
      (λ (op a : ℕ). build op a (read_to d (new_formulas_lem F f) (left_at (new_formulas_lem F f) (new_number F f k))) (read_to d (new_formulas_lem F f) (right_at (new_formulas_lem F f) (new_number F f k))))
      (same_record k h e).operator (same_record k h e).action
      ∙ build_same (operator_at F k) (action_at F k) _ _ (read_to d F (left_at F k)) (read_to d F (right_at F k))
      (λ q.
      let m : left_at F k < k = left_lower F low k h q in
      ap (read_to d (new_formulas_lem F f)) ((same_record k h e).left q) ∙ read_new d (left_at F k) (omega arith) (omega arith) (left_reached k h e q))
      (λ q.
      let m : right_at F k < k = right_lower F low k h q in
      ap (read_to d (new_formulas_lem F f)) ((same_record k h e).right q) ∙ read_new d (right_at F k) (omega arith) (omega arith) (right_reached k h e q))

  -- the formula of a reached record is the same
  pub formula_new : (k : ℕ) → k < formulas F → reached F f k ≡ true → formula (new_formulas_lem F f) (new_number F f k) ≡ formula F k
  unfolding formula
  formula_new k h e =
      let l : new_number F f k ≤ k = number_most F f k in
      read_same (new_formulas_lem F f) lower_new (suc (new_number F f k)) (suc k) (new_number F f k) (omega arith) (omega arith) (number_inside k h e)
      ∙ read_new (suc k) k (omega arith) h e
