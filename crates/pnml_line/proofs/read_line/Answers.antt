-- `pnml_line::read_line` meets its contract. Assumes nothing.
use native.Mathlib.Omega.{arith}
use Rattle.pnml_line.proofs.Answers.{read_byte}
use Rattle.pnml_line.proofs.Lines.{read_found, read_refused}
use Rattle.pnml_line.proofs.read_line.Goals as goal

pub returns-then-f-eq0 : goal.returns-then-f-eq0
returns-then-f-eq0 c =
    let n = c.read_numbers-f.ensures in
    read_found _ n.0 c.if-f-eq0.true n.2 n.3 c.put_found.ensures

pub put_refused-requires : goal.put_refused-requires
put_refused-requires c = omega (arith, read_byte c.args.r, c.read_numbers-f.ensures.0)

pub returns : goal.returns
returns c =
    let n = c.read_numbers-f.ensures in
    read_refused _ n.0 n.1 c.if-f-eq0.false c.put_refused.ensures
