-- `category::text` meets its contract. Assumes nothing.
use mathlib.Core.Path.{◌≡◌, refl}
use Prim.Native.Nat.{◌+◌}
use native.Mathlib.Omega.{arith}
use Rattle.category.specs.Labels.{text_of, text_offset}
use Rattle.category.proofs.Sources.{nothing, answer_or}
use Rattle.category.proofs.text.Goals as goal

pub returns : goal.returns
returns c =
    let file = c.args.file in
    let a = c.args.action in
    let r = answer_or file.now a
    (λ t. t.now ≡ text_of file.now a)
    (λ t. (t.ref_ptr.0 ≡ file.ref_ptr.0) × (t.ref_ptr.1 ≡ text_offset file.now a + file.ref_ptr.1))
    c.text_in.result
    _
    c.text_in.ensures.bytes
    c.text_in.ensures.part
    (λ e. let n = nothing file.now a e in (n.0, (refl, omega (arith, n.1)))) in
    record { bytes = rw c.unwrap_or.ensures r.0; part = rw c.unwrap_or.ensures r.1 }
