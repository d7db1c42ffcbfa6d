-- `pnml_line::write_line` meets its contract. Assumes nothing.
use native.Mathlib.Omega.{arith}
use Rattle.pnml_line.proofs.Answers.{written_byte}
use Rattle.pnml_line.proofs.Lines.{write_none, write_refused}
use Rattle.pnml_line.proofs.write_line.Goals as goal

pub returns-then-n-eq0 : goal.returns-then-n-eq0
returns-then-n-eq0 c = write_none _ c.written_numbers-n.ensures.0 c.if-n-eq0.true

pub put_refused-requires : goal.put_refused-requires
put_refused-requires c = omega (arith, written_byte c.args.w, c.written_numbers-n.ensures.0)

pub returns : goal.returns
returns c =
    write_refused _ c.written_numbers-n.ensures.0 c.written_numbers-n.ensures.1 c.if-n-eq0.false c.put_refused.ensures
