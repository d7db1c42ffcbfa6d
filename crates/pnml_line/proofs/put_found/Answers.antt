-- `pnml_line::put_found` meets its contract. Assumes nothing.
use native.Mathlib.Omega.{arith}
use Rattle.texts.proofs.Digits.{decimal_length, word_length}
use Rattle.texts.proofs.Line.{join}
use Rattle.pnml_line.specs.Line.{found_line}
use Rattle.pnml_line.proofs.put_found.Goals as goal

pub put_number-at-requires : goal.put_number-at-requires
put_number-at-requires c = omega (arith, c.put_word-at.ensures.next, decimal_length 1 c.args.places (omega (arith, c.requires)))

pub put_word-at-requires-2 : goal.put_word-at-requires-2
put_word-at-requires-2 c = omega (arith, c.put_word-at.ensures.next, c.put_number-at.ensures.next, decimal_length 1 c.args.places (omega (arith, c.requires)))

pub put_number-at-requires-2 : goal.put_number-at-requires-2
put_number-at-requires-2 c = omega (
  arith,
  c.put_word-at.ensures.next,
  c.put_number-at.ensures.next,
  c.put_word-at-2.ensures.next,
  decimal_length 1 c.args.places (omega (arith, c.requires)),
  word_length c.args.marking c.ranges.marking.fits,
)

pub put_word-requires : goal.put_word-requires
put_word-requires c = omega (
  arith,
  c.put_word-at.ensures.next,
  c.put_number-at.ensures.next,
  c.put_word-at-2.ensures.next,
  c.put_number-at-2.ensures.next,
  decimal_length 1 c.args.places (omega (arith, c.requires)),
  word_length c.args.marking c.ranges.marking.fits,
)

pub returns : goal.returns
unfolding found_line
returns c = join (join (join (join c.put_word-at.ensures c.put_number-at.ensures) c.put_word-at-2.ensures) c.put_number-at-2.ensures) c.put_word.ensures
