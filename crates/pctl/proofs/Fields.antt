-- The test of a formula record, as the code makes it. Assumes nothing.
use mathlib.Core.Path.{◌≡◌, ap, ap₂, ◌∙◌}
use mathlib.Core.Bool.{Bool, not, ◌&&◌, ◌||◌}
use mathlib.Core.List.{List}
use Prim.Native.Nat.{ℕ}
use lib.Dec.{eqb, leb}
use Rattle.pctl.specs.declared.FormulaRecord.{FormulaRecord}
use Rattle.pctl.specs.Table.{spare_at, record_at, has_left, has_right, has_action, operand_good, fields_good, formula_bad}

pub bad_fields : (F : List ℕ) (i : ℕ) (f : FormulaRecord) (spare : ℕ) (hl hr l r : Bool) → f ≡ record_at F i → spare ≡ spare_at F i
    → hl ≡ has_left f.operator → l ≡ operand_good hl i f.left → hr ≡ has_right f.operator → r ≡ operand_good hr i f.right
    → not (leb f.operator 5 && eqb spare 0 && l && r && (eqb f.operator 3 || eqb f.action 0)) ≡ formula_bad F i
unfolding formula_bad fields_good has_action record_at
bad_fields F i f spare hl hr l r e p a q b s =
    ap₂ (λ x y. not (leb f.operator 5 && eqb spare 0 && x && y && (eqb f.operator 3 || eqb f.action 0)))
    (q ∙ ap (λ h. operand_good h i f.left) a) (s ∙ ap (λ h. operand_good h i f.right) b)
    ∙ ap₂ (λ (g : FormulaRecord) (n : ℕ). not (fields_good i g.operator n g.left g.right g.action)) e p
