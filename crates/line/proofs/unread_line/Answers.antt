-- `line::unread_line` meets its contract. Assumes nothing.
use native.Mathlib.Omega.{arith}
use Rattle.std.proofs.Common.{◌≤◌, length}
use Rattle.line.specs.declared.Input.{Input}
use Rattle.line.specs.declared.Input.TheVariants.{Ask, Net, Formula, Tree}
use Rattle.line.specs.Line.{name_of, unread_line}
use Rattle.line.proofs.unread_line.Goals as goal

short : (file : Input) → length (name_of file) ≤ 8
short Ask = omega arith
short Net = omega arith
short Formula = omega arith
short Tree = omega arith

pub put_unread-requires : goal.put_unread-requires
put_unread-requires c = let e = c.name.ensures in rw e (short c.args.file)

pub returns : goal.returns
unfolding unread_line
returns c = rw c.name.ensures at c.put_unread.ensures
