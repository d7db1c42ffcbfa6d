-- `line::put_accepted` meets its contract. Assumes nothing.
use native.Mathlib.Omega.{arith}
use Rattle.line.specs.Line.{accepted_line}
use Rattle.texts.proofs.Digits.{word_length}
use Rattle.texts.proofs.Line.{join}
use Rattle.line.proofs.put_accepted.Goals as goal

pub put_number-at-requires : goal.put_number-at-requires
put_number-at-requires c = omega (arith, c.put_word-at.ensures.next, word_length c.args.nodes c.ranges.nodes.fits)

pub put_word-requires : goal.put_word-requires
put_word-requires c = omega (arith, c.put_word-at.ensures.next, c.put_number-at.ensures.next, word_length c.args.nodes c.ranges.nodes.fits)

pub returns : goal.returns
unfolding accepted_line
returns c = join (join c.put_word-at.ensures c.put_number-at.ensures) c.put_word.ensures
