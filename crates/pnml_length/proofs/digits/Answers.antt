-- `pnml_length::digits` meets its contract. Assumes nothing.
use native.Mathlib.Omega.{arith}
use Rattle.pnml_length.proofs.Sums.{digits_one, digits_two, digits_three, digits_four, digits_five}
use Rattle.pnml_length.proofs.digits.Goals as goal

pub returns-in-0-to-9 : goal.returns-in-0-to-9
returns-in-0-to-9 c = (digits_one _ (omega arith), omega arith)

pub returns-in-10-to-99 : goal.returns-in-10-to-99
returns-in-10-to-99 c = (digits_two _ (omega arith) (omega arith), omega arith)

pub returns-in-100-to-999 : goal.returns-in-100-to-999
returns-in-100-to-999 c = (digits_three _ (omega arith) (omega arith), omega arith)

pub returns-in-1000-to-9999 : goal.returns-in-1000-to-9999
returns-in-1000-to-9999 c = (digits_four _ (omega arith) (omega arith), omega arith)

pub returns-in_default : goal.returns-in_default
returns-in_default c = (digits_five _ (omega arith) c.requires, omega arith)
