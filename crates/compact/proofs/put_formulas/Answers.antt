-- `compact::put_formulas` meets its contract. The invariant: the marked ones of the first i records are stored. Assumes nothing.
use borrow.Author.Rules.{rules}
use borrow.Author.Tests.{not-true, not-false}
use Rattle.pctl.specs.Table.{formulas}
use Rattle.compact.proofs.Records.{few}
use Rattle.compact.proofs.Writing.{kept_none, kept_most, kept_skip, kept_room, kept_next, kept_all}
use Rattle.compact.proofs.put_formulas.Goals as goal

pub loop-i-init : goal.loop-i-init
loop-i-init c = kept_none _ _ _ _

pub bounds-marks-i : goal.bounds-marks-i
unfolding formulas
bounds-marks-i c = few _ c.requires.0 c.loop-i.i c.loop-i-test.true

pub loop-i-preserved-then-not-marks-i : goal.loop-i-preserved-then-not-marks-i
unfolding formulas
loop-i-preserved-then-not-marks-i c = kept_skip _ _ _ c.loop-i.invariant c.loop-i-test.true (not-true _ c.if-not-marks-i.true-raw)

pub put_record-requires : goal.put_record-requires
unfolding formulas
put_record-requires c =
    (c.requires.0, c.loop-i-test.true, kept_room _ _ _ c.loop-i.invariant c.loop-i-test.true (not-false _ c.if-not-marks-i.false-raw) c.requires.1)

pub overflow_add-n : goal.overflow_add-n
overflow_add-n c = let h = kept_most _ _ _ c.loop-i.invariant in search rules

pub loop-i-preserved : goal.loop-i-preserved
unfolding formulas
loop-i-preserved c =
    kept_next _ _ _ c.loop-i.invariant c.loop-i-test.true (not-false _ c.if-not-marks-i.false-raw) c.put_record.ensures

pub shape_of-room : goal.shape_of-room
shape_of-room c = c.loop-i.invariant.laid.size

pub returns : goal.returns
unfolding formulas
returns c = kept_all _ _ _ c.loop-i.invariant c.loop-i-test.false
