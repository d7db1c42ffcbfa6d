-- `sample_written::check` meets its contract. Assumes nothing.
use mathlib.Core.Path.{ap, ◌∙◌}
use mathlib.Core.List.{List}
use Prim.Native.Nat.{ℕ}
use Rattle.checker.specs.Outcomes.{check_outcome}
use Rattle.sample_written.proofs.Rooms.{sided}
use Rattle.sample_written.proofs.check.Goals as goal

pub returns : goal.returns
returns c =
    let args = c.args in
    c.check.ensures.0
    ∙ ap (λ (a : List ℕ). check_outcome a args.net.now args.formulas.now args.tree.now) (sided _ _ c.copy_from_slice.ensures.after)
