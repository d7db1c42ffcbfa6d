-- `pnml::keep` is safe and ends: the records lie within their room. Assumes nothing.
use mathlib.Core.Path.{sym, subst}
use Prim.Native.Nat.{◌≤◌}
use lib.ListN.{length}
use lib.Seq.{length-take-le}
use Rattle.pnml_read.specs.Answer.{found_of}
use Rattle.pnml.proofs.keep.Goals as goal

pub slice_bounds-write_argument-end : goal.slice_bounds-write_argument-end
unfolding found_of
slice_bounds-write_argument-end c =
    sym (length-take-le _ _ (subst (λ x. (found_of x).length ≤ length c.args.records.now) c.in-Ok.is c.requires))
