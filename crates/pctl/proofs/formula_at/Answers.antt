-- `pctl::formula_at` meets its contract. Assumes nothing.
use mathlib.Core.Path.{◌≡◌}
use Prim.Native.Nat.{ℕ}
use Rattle.tables.proofs.Numbers.{field_one}
use Rattle.pctl.specs.declared.FormulaRecord.{FormulaRecord}
use Rattle.pctl.specs.Table as table
use Rattle.pctl.proofs.formula_at.Goals as goal

-- a record by its fields
whole : {a a' b b' d d' e e' : ℕ} → a ≡ a' → b ≡ b' → d ≡ d' → e ≡ e'
    → ◌≡◌ {A = FormulaRecord} (record { operator = a; left = b; right = d; action = e }) (record { operator = a'; left = b'; right = d'; action = e' })
whole p q r s = λ i. record { operator = p i; left = q i; right = r i; action = s i }

pub returns : goal.returns
unfolding table.record_at table.operator_at table.left_at table.right_at table.action_at
returns c =
    let a = c.args in
    whole (field_one _ _) c.u16_at-left.ensures c.u16_at-right.ensures c.u16_at-action.ensures
