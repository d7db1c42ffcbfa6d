-- `sample_nets::conflicts` meets its contract. Assumes nothing.
use Rattle.std.proofs.Common.{arith}
use Rattle.sample_nets.proofs.Decoded.{refused, whole, few, absent, found}
use Rattle.sample_nets.proofs.conflicts.Goals as goal

pub returns-in_default : goal.returns-in_default
returns-in_default c = refused _ _ _ _ c.in_default.ensures

pub decode-decoded-requires : goal.decode-decoded-requires
decode-decoded-requires c = whole _ _ c.in-Ok.ensures

pub returns-then-decoded-t : goal.returns-then-decoded-t
returns-then-decoded-t c = absent _ _ _ c.in-Ok.ensures _ c.decode-decoded.ensures c.if-decoded-t.true

pub conflicts-requires : goal.conflicts-requires
conflicts-requires c = let most = few _ _ c.in-Ok.ensures _ c.decode-decoded.ensures in (omega arith, most)

pub returns : goal.returns
returns c = found _ _ _ c.in-Ok.ensures _ _ c.decode-decoded.ensures c.if-decoded-t.false c.conflicts.ensures
