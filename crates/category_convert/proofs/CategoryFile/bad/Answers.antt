-- `category_convert::CategoryFile::bad` meets its contract. Assumes nothing.
use native.Mathlib.Omega.{arith}
use Rattle.category_borrowed.specs.Files.{faulty_at}
use Rattle.category_convert.proofs.Prefix.{prefix_ascends, prefix_le}
use Rattle.category_convert.proofs.CategoryFile.bad.Goals as goal

pub new-requires : goal.new-requires
new-requires c = omega (arith, prefix_le _ _ c.args.self.now.measured)

pub kind_good-requires : goal.kind_good-requires
kind_good-requires c = omega (arith, prefix_le _ _ c.args.self.now.measured)

pub returns : goal.returns
unfolding faulty_at
returns c =
    let n = c.new.ensures in
    simp (c.kind_good.ensures, c.spare_zero.ensures, n.0, n.1, prefix_ascends _ _ c.args.self.now.measured _ c.requires)
