-- `category::good_byte` meets its contract. Assumes nothing.
use mathlib.Core.Bool.{and-true}
use Prim.Native.Nat.{◌≤◌}
use native.Mathlib.Omega.{arith}
use borrow.Author.Tests.{le-leb}
use Rattle.category.specs.Faults.{good_byte}
use Rattle.category.proofs.good_byte.Goals as goal

pub returns : goal.returns
unfolding good_byte
returns c = let h : c.args.b ≤ 0xFF = omega arith in simp (le-leb _ _ h, and-true)
