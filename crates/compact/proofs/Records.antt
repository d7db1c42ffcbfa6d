-- A formula record as it was read: its place in the table, and its operands, which are entries of the arrays. Assumes nothing.
use mathlib.Core.Path.{◌≡◌, sym, ap, subst}
use mathlib.Core.Bool.{Bool, true, false, ◌&&◌, ◌||◌}
use mathlib.Core.List.{List}
use Prim.Native.Nat.{ℕ, ◌+◌, ◌*◌, ◌≤◌, ◌<◌}
use native.Mathlib.Omega.{arith}
use lib.ListN.{length}
use lib.Dec.{eqb, leb}
use borrow.Author.Tests.{ltb-true, eqb-true, not-false}
use Rattle.tables.proofs.Tests.{and_left, and_right}
use Rattle.tables.proofs.Counts.{sized_most, record_inside}
use Rattle.pctl.specs.declared.FormulaRecord.{FormulaRecord}
use Rattle.pctl.specs.Table.{
  formula_size,
  operator_at,
  spare_at,
  left_at,
  right_at,
  action_at,
  record_at,
  formulas,
  formulas_sized,
  has_left,
  has_right,
  has_action,
  operand_good,
  fields_good,
  formula_bad,
}
use Rattle.pctl.specs.Lower.{Lower}
use Rattle.compact.specs.Serving.{Formulas}

-- an operand, also one that the operator lacks
operand_few : (has : Bool) (i operand : ℕ) → i < 256 → operand_good has i operand ≡ true → operand < 256
unfolding operand_good
operand_few true i operand h e = let l = ltb-true operand i e in omega arith
operand_few false i operand h e = let z = eqb-true operand 0 e in omega arith

module _ (F : List ℕ) (good : Formulas F) where
  -- a table has at most 256 records
  pub few_formulas : formulas F ≤ 256
  unfolding formulas_sized formulas
  few_formulas = sized_most formula_size 1 256 (length F) good.sized

  module _ (i : ℕ) (h : i < formulas F) where
    pub few : i < 256
    few = let k = few_formulas in omega arith

    -- the record lies inside the bytes
    pub inside : i * formula_size + formula_size ≤ length F
    unfolding formulas
    inside = record_inside formula_size (length F) i h

    fields : fields_good i (operator_at F i) (spare_at F i) (left_at F i) (right_at F i) (action_at F i) ≡ true
    unfolding Lower formula_bad
    fields = not-false (fields_good i (operator_at F i) (spare_at F i) (left_at F i) (right_at F i) (action_at F i)) (good.lower i h)

    both : (left_at F i < 256) × (right_at F i < 256)
    unfolding fields_good
    both =
        let head : Bool = leb (operator_at F i) 5 && eqb (spare_at F i) 0 in
        let left : Bool = operand_good (has_left (operator_at F i)) i (left_at F i) in
        let right : Bool = operand_good (has_right (operator_at F i)) i (right_at F i) in
        let e : (head && left && right) ≡ true = and_left (head && left && right) (has_action (operator_at F i) || eqb (action_at F i) 0) fields in (
          operand_few (has_left (operator_at F i)) i (left_at F i) few (and_right head left (and_left (head && left) right e)),
          operand_few (has_right (operator_at F i)) i (right_at F i) few (and_right (head && left) right e),
        )

    module _ {r : FormulaRecord} (e : r ≡ record_at F i) where
      pub left_few : r.left < 256
      unfolding record_at
      left_few = subst (λ (x : ℕ). x < 256) (sym (ap (λ x. x.left) e)) both.0

      pub right_few : r.right < 256
      unfolding record_at
      right_few = subst (λ (x : ℕ). x < 256) (sym (ap (λ x. x.right) e)) both.1
