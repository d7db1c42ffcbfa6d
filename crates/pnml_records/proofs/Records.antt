-- The records of tables that hold the sets and entries of a drawing are the drawing's records. Assumes nothing.
use mathlib.Core.Path.{◌≡◌, refl, ap, ap₂, ◌∙◌}
use mathlib.Core.Bool.{true, false}
use mathlib.Core.List.{List, [], ◌∷◌, ◌++◌}
use Prim.Native.Nat.{ℕ, suc, ◌<◌}
use native.Mathlib.Nat.{lt-suc_self, lt_trans}
use lib.ListN.{length, get_or}
use Rattle.pnml_shape.specs.Drawing.{Arc}
use Rattle.pnml_net.specs.Nets.{numbered, set_of, record_bytes, records_of}
use Rattle.pnml_net.proofs.Lists.{numbered_before, numbered_last}
use Rattle.pnml_records.specs.Records.{records_by}

-- tables that agree with the sets and entries give the drawing's records
pub records-by : (arcs : List Arc) (actions pre post action : List ℕ)
    → ((t : ℕ) → t < length actions → (get_or pre t 0 ≡ set_of arcs t false) × (get_or post t 0 ≡ set_of arcs t true))
    → ((t : ℕ) → t < length actions → get_or action t 0 ≡ numbered actions t)
    → records_by pre post action (length actions) ≡ records_of arcs actions
unfolding records_by records_of
records-by arcs [] pre post action s n = refl
records-by arcs (a ∷ l) pre post action s n =
    let last : length l < length (a ∷ l) = lt-suc_self (length l) in
    ap₂ ◌++◌
    (records-by arcs l pre post action (λ t h. s t (lt_trans h last)) (λ t h. n t (lt_trans h last) ∙ numbered_before a l t h))
    (ap₂ (λ (x y : ℕ). record_bytes x y (get_or action (length l) 0)) (s (length l) last).0 (s (length l) last).1
    ∙ ap (record_bytes (set_of arcs (length l) false) (set_of arcs (length l) true)) (n (length l) last ∙ numbered_last a l))
