-- The loop over the elements: its start. Assumes nothing.
use mathlib.Core.Path.{◌≡◌, refl, sym, ap, ◌∙◌, subst}
use mathlib.Core.List.{List, []}
use Prim.Native.Nat.{ℕ, ◌<◌, zero-le}
use lib.ListN.{length, get_or, length-replicate, get_or-replicate}
use Rattle.std.specs.Prelude.{Ok}
use Rattle.pnml_shape.specs.Machine.{least}
use Rattle.pnml_shape.specs.Theorem.{reading}
use Rattle.pnml_scan.specs.Serving.{Opened}
use Rattle.pnml_state.proofs.State.{holds_nothing}
use Rattle.pnml_turn.specs.declared.State.{State}
use Rattle.pnml_turn.specs.Serving.{Read, begun, no_entry}

size : {l : List ℕ} → l ≡ no_entry → length l ≡ 64
size e = ap length e ∙ length-replicate {A = ℕ} 64 0

no-entry : {l : List ℕ} → l ≡ no_entry → (i : ℕ) → i < 64 → get_or l i 0 ≡ 0
no-entry e i h = ap (λ (l : List ℕ). get_or l i 0) e ∙ get_or-replicate {A = ℕ} 64 i 0 0 h

-- before the first element
pub begins : (t : List ℕ) (k : ℕ) → Opened t (Ok k) → (s : State) → s ≡ begun k → (pre post action : List ℕ)
    → (pre ≡ no_entry) × (post ≡ no_entry) × (action ≡ no_entry) → Read t s pre post action
unfolding reading least
begins t k h s e pre post action (p, q, a) =
    subst (λ x. Read t x pre post action) (sym e)
    (record {
      drawing = record { marks = []; actions = []; arcs = [] };
      fits = record { places = refl; transitions = refl; arcs = refl; first = refl };
      holds = holds_nothing pre post action (size p) (size q) (size a) (no-entry p) (no-entry q);
      same = h.same;
      bounds = record { inside = h.inside; places = zero-le; transitions = zero-le; arcs = zero-le; none = λ z. refl };
    })
