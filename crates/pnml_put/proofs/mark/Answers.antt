-- `pnml_put::mark` meets its contract. Assumes nothing.
use mathlib.Core.Path.{◌≡◌, refl, ap, ◌∙◌}
use mathlib.Core.Bool.{Bool, true, false, cond}
use Prim.Native.Nat.{ℕ, ◌<◌}
use native.Mathlib.Omega.{arith}
use mir.Val.{bool_byte}
use Rattle.pnml_net.specs.Nets.{mark_of}
use Rattle.pnml_put.proofs.mark.Goals as goal

-- a test as a number
as_number : (b : Bool) → (bool_byte b ≡ cond b 1 0) × (bool_byte b < 10)
as_number true = (refl, omega arith)
as_number false = (refl, omega arith)

pub returns : goal.returns
unfolding mark_of
returns c =
    let h = as_number c.member.result in
    (c.from.ensures ∙ h.0 ∙ ap (λ (b : Bool). cond {A = ℕ} b 1 0) c.member.ensures, omega (arith, h.1, c.from.ensures))
