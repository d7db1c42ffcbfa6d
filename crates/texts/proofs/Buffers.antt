-- Words that are written into a list one after the other. Assumes nothing.
use mathlib.Core.Path.{◌≡◌, sym, ap, ap₂, ◌∙◌}
use mathlib.Core.List.{List, [], ◌∷◌, ◌++◌, append_assoc}
use Prim.Native.Nat.{ℕ, suc, ◌+◌, ◌≤◌}
use native.Mathlib.Nat.{add-zero, add-suc, suc-add}
use native.Mathlib.Omega.{arith}
use borrow.Rule.Slice.PartMut.{put_mid}
use lib.ListN.{length, set, take, drop}
use lib.Seq.{sets, sets-eq, drop-drop}

pub sets_append : (vs ws l : List ℕ) (i : ℕ) → sets (sets l i vs) (i + length vs) ws ≡ sets l i (vs ++ ws)
sets_append [] ws l i = ap (λ (k : ℕ). sets l k ws) (add-zero i)
sets_append (a ∷ vs) ws l i =
    let e : i + suc (length vs) ≡ suc i + length vs = add-suc i (length vs) ∙ sym (suc-add i (length vs)) in
    ap (λ (k : ℕ). sets (sets (set l i a) (suc i) vs) k ws) e ∙ sets_append vs ws (set l i a) (suc i)

-- a part that holds other elements now
pub part_put : (l new vs : List ℕ) (at n : ℕ) → new ≡ vs → n ≡ length vs → at + n ≤ length l → put_mid at n l new ≡ sets l at vs
part_put l new vs at n e p h =
    ap (λ r. take at l ++ (new ++ r)) (drop-drop n at l)
    ∙ ap₂ (λ (w : List ℕ) (k : ℕ). take at l ++ (w ++ drop (at + k) l)) e p
    ∙ sym (append_assoc (take at l) vs (drop (at + length vs) l))
    ∙ sym (sets-eq vs l at (omega arith))
