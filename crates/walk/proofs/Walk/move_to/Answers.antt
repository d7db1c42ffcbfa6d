-- `walk::Walk::move_to` meets its contract. Assumes nothing.
use mathlib.Core.Path.{ap}
use Prim.Native.Nat.{ℕ}
use Rattle.walk.specs.State.{moved_to}
use Rattle.walk.proofs.Walk.move_to.Goals as goal

pub returns : goal.returns
unfolding moved_to
returns c =
    let a = c.args in
    let w = a.self.now in
    ap (λ (s : ℕ). record { net = w.net; start = w.start; present = a.present; count = a.count; next = s }) c.next-self.ensures
