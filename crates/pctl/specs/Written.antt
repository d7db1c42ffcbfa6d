-- The bytes of a formula record. Assumes nothing.
use Rattle.std.specs.Prelude.{ℕ, List, ◌++◌}
use Rattle.stores.specs.Low.{low_bytes}
use Rattle.pctl.specs.declared.FormulaRecord.{FormulaRecord}

-- the operator, a zero, the operands and the action
unfoldable pub formula_bytes : FormulaRecord → List ℕ
formula_bytes r = low_bytes 1 r.operator ++ (low_bytes 1 0 ++ (low_bytes 2 r.left ++ (low_bytes 2 r.right ++ low_bytes 2 r.action)))
