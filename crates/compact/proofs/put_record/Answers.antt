-- `compact::put_record` meets its contract. Assumes nothing.
use Rattle.compact.proofs.Records.{inside, left_few, right_few}
use Rattle.compact.proofs.Writing.{record_put}
use Rattle.compact.proofs.put_record.Goals as goal

pub formula_at-r-requires : goal.formula_at-r-requires
formula_at-r-requires c = inside _ c.requires.0 c.args.i c.requires.1

pub new_operand-left-requires : goal.new_operand-left-requires
new_operand-left-requires c =
    left_few _ c.requires.0 c.args.i c.requires.1 c.formula_at-r.ensures

pub new_operand-right-requires : goal.new_operand-right-requires
new_operand-right-requires c =
    right_few _ c.requires.0 c.args.i c.requires.1 c.formula_at-r.ensures

pub returns : goal.returns
returns c =
    record_put _ _ _ c.formula_at-r.ensures
    c.has_left.ensures c.new_operand-left.ensures
    c.has_right.ensures c.new_operand-right.ensures c.put_formula.ensures
