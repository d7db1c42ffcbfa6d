-- Formula records as bytes: how they are stored, their length, and what is read of them. Assumes nothing.
use mathlib.Core.Path.{◌≡◌, refl, ap, ◌∙◌}
use mathlib.Core.List.{List, ◌++◌}
use Prim.Native.Nat.{ℕ, ◌+◌, ◌*◌, ◌^◌, ◌<◌}
use native.Mathlib.Omega.{arith}
use lib.ListN.{length, drop}
use lib.Seq.{sets, drop_at}
use Rattle.tables.specs.Bytes.{little, field}
use Rattle.tables.proofs.Parts.{field_after}
use Rattle.stores.specs.Low.{low_bytes}
use Rattle.stores.proofs.Low.{little_low}
use Rattle.stores.proofs.Stores.{after_low}
use Rattle.pctl.specs.declared.FormulaRecord.{FormulaRecord}
use Rattle.pctl.specs.Table.{formula_size, operator_at, spare_at, left_at, right_at, action_at, record_at}
use Rattle.pctl.specs.Written.{formula_bytes}

-- its five fields, one after the other
pub formula_put : (l : List ℕ) {l₁ l₂ l₃ l₄ l₅ : List ℕ} (i : ℕ) (r : FormulaRecord) → l₁ ≡ sets l i (low_bytes 1 r.operator)
    → l₂ ≡ sets l₁ (i + 1) (low_bytes 1 0) → l₃ ≡ sets l₂ (i + 2) (low_bytes 2 r.left) → l₄ ≡ sets l₃ (i + 4) (low_bytes 2 r.right)
    → l₅ ≡ sets l₄ (i + 6) (low_bytes 2 r.action) → l₅ ≡ sets l i (formula_bytes r)
unfolding formula_bytes
formula_put l {l₁} {l₂} {l₃} i r e₁ e₂ e₃ e₄ e₅ =
    after_low l i 1 r.operator _ refl e₁
    (after_low l₁ (i + 1) 1 0 _ (omega arith) e₂
    (after_low l₂ (i + 2) 2 r.left _ (omega arith) e₃ (after_low l₃ (i + 4) 2 r.right _ (omega arith) e₄ e₅)))

-- as many bytes as a record has
pub formula_length : (r : FormulaRecord) → length (formula_bytes r) ≡ formula_size
unfolding formula_bytes low_bytes
formula_length r = refl

-- each field fits its bytes
pub record FormulaFits (r : FormulaRecord) : Type 0 where
  pub operator : r.operator < 256 ^ 1
  pub left : r.left < 256 ^ 2
  pub right : r.right < 256 ^ 2
  pub action : r.action < 256 ^ 2

module _ (a b : List ℕ) (k : ℕ) (r : FormulaRecord) (e : length a ≡ k * formula_size) where
  l : List ℕ
  l = formula_bytes r ++ b

  -- record k of a table is the one whose bytes stand there
  pub formula_read : FormulaFits r → record_at (a ++ (formula_bytes r ++ b)) k ≡ r
  unfolding record_at operator_at left_at right_at action_at field formula_bytes low_bytes l
  formula_read fits =
      let op = ap (little 1) (drop_at a l (k * formula_size) e) ∙ little_low 1 r.operator (drop 1 l) fits.operator in
      let left = field_after a l (k * formula_size) 2 2 e ∙ little_low 2 r.left (drop 4 l) fits.left in
      let right = field_after a l (k * formula_size) 4 2 e ∙ little_low 2 r.right (drop 6 l) fits.right in
      let action = field_after a l (k * formula_size) 6 2 e ∙ little_low 2 r.action (drop 8 l) fits.action in
      λ i. record { operator = op i; left = left i; right = right i; action = action i }

  -- and its spare byte is zero
  pub spare_read : spare_at (a ++ (formula_bytes r ++ b)) k ≡ 0
  unfolding spare_at field formula_bytes low_bytes l
  spare_read = field_after a l (k * formula_size) 1 1 e ∙ little_low 1 0 (drop 2 l) (omega arith)
