-- `line::put_rejected` meets its contract. Assumes nothing.
use native.Mathlib.Omega.{arith}
use Rattle.checker.specs.Outcomes.{verdict}
use Rattle.checker.proofs.Admitting.{input_byte, node_byte}
use Rattle.line.specs.Line.{line_of}
use Rattle.line.proofs.put_rejected.Goals as goal

pub overflow_cast-n : goal.overflow_cast-n
overflow_cast-n c = omega (arith, input_byte c.in-Input.fault, c.input_numbers-n.ensures.0)

pub overflow_cast-number : goal.overflow_cast-number
overflow_cast-number c = omega (arith, node_byte c.in-Node.fault, c.number.ensures)

pub returns-in-Input : goal.returns-in-Input
unfolding verdict line_of
returns-in-Input c =
    let n = c.input_numbers-n.ensures in
    simp c.in-Input.is (rw (n.0, n.1) at c.put_placed.ensures)

pub returns-in-Node : goal.returns-in-Node
unfolding verdict line_of
returns-in-Node c = simp c.in-Node.is (rw c.number.ensures at c.put_placed-in-Node.ensures)
