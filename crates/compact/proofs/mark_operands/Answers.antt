-- `compact::mark_operands` meets its contract. Assumes nothing.
use mathlib.Core.Path.{refl}
use Rattle.compact.proofs.Records.{few, inside, left_few, right_few}
use Rattle.compact.proofs.Marks.{operands_marked}
use Rattle.compact.proofs.mark_operands.Goals as goal

pub bounds-marks-i : goal.bounds-marks-i
bounds-marks-i c = few _ c.requires.0 c.args.i c.requires.1

pub formula_at-r-requires : goal.formula_at-r-requires
formula_at-r-requires c = inside _ c.requires.0 c.args.i c.requires.1

pub bounds-marks-r : goal.bounds-marks-r
bounds-marks-r c = left_few _ c.requires.0 c.args.i c.requires.1 c.formula_at-r.ensures

pub bounds-marks-r-2 : goal.bounds-marks-r-2
bounds-marks-r-2 c = left_few _ c.requires.0 c.args.i c.requires.1 c.formula_at-r.ensures

pub bounds-marks-r-3 : goal.bounds-marks-r-3
bounds-marks-r-3 c = right_few _ c.requires.0 c.args.i c.requires.1 c.formula_at-r.ensures

pub bounds-marks-r-4 : goal.bounds-marks-r-4
bounds-marks-r-4 c = right_few _ c.requires.0 c.args.i c.requires.1 c.formula_at-r.ensures

pub returns : goal.returns
returns c =
    operands_marked _ c.requires.0 c.args.i c.requires.1 c.args.marks.now c.formula_at-r.ensures c.has_left.ensures refl c.has_right.ensures refl
