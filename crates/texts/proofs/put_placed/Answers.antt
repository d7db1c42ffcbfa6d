-- `texts::put_placed` meets its contract. Assumes nothing.
use native.Mathlib.Omega.{arith}
use Rattle.texts.specs.Line.{placed_line}
use Rattle.texts.proofs.Digits.{word_length, byte_length}
use Rattle.texts.proofs.Line.{join}
use Rattle.texts.proofs.put_placed.Goals as goal

pub put_number-at-requires : goal.put_number-at-requires
put_number-at-requires c = omega (
  arith,
  c.requires,
  c.put_word-at.ensures.next,
  byte_length c.args.number c.ranges.number.fits,
  word_length c.args.place c.ranges.place.fits,
)

pub put_word-at-requires-2 : goal.put_word-at-requires-2
put_word-at-requires-2 c = omega (
  arith,
  c.requires,
  c.put_word-at.ensures.next,
  c.put_number-at.ensures.next,
  byte_length c.args.number c.ranges.number.fits,
  word_length c.args.place c.ranges.place.fits,
)

pub put_number-at-requires-2 : goal.put_number-at-requires-2
put_number-at-requires-2 c = omega (
  arith,
  c.requires,
  c.put_word-at.ensures.next,
  c.put_number-at.ensures.next,
  c.put_word-at-2.ensures.next,
  byte_length c.args.number c.ranges.number.fits,
  word_length c.args.place c.ranges.place.fits,
)

pub put_word-requires : goal.put_word-requires
put_word-requires c = omega (
  arith,
  c.requires,
  c.put_word-at.ensures.next,
  c.put_number-at.ensures.next,
  c.put_word-at-2.ensures.next,
  c.put_number-at-2.ensures.next,
  byte_length c.args.number c.ranges.number.fits,
  word_length c.args.place c.ranges.place.fits,
)

pub returns : goal.returns
unfolding placed_line
returns c = join (join (join (join c.put_word-at.ensures c.put_number-at.ensures) c.put_word-at-2.ensures) c.put_number-at-2.ensures) c.put_word.ensures
