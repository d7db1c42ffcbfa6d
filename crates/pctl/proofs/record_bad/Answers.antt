-- `pctl::record_bad` meets its contract. Assumes nothing.
use Rattle.tables.proofs.Numbers.{field_one}
use Rattle.pctl.proofs.Fields.{bad_fields}
use Rattle.pctl.specs.Table as table
use Rattle.pctl.proofs.record_bad.Goals as goal

pub returns : goal.returns
unfolding table.spare_at
returns c =
    bad_fields _ _ _ _ _ _ _ _ c.formula_at-f.ensures (field_one _ _) c.has_left.ensures
    c.operand_good-left.ensures c.has_right.ensures c.operand_good-right.ensures
