-- The parts that are put are the text of the net that a table holds. Assumes nothing.
use mathlib.Core.Path.{◌≡◌, refl, sym, ap₂, ◌∙◌}
use mathlib.Core.Bool.{true}
use mathlib.Core.List.{List, ◌∷◌, ◌++◌, append_assoc}
use Prim.Native.Nat.{ℕ, zero, suc, ◌+◌, ◌*◌, ◌≤◌, ◌<◌}
use native.Mathlib.Nat.{le_refl}
use native.Mathlib.Omega.{arith}
use lib.ListN.{length, get_or}
use lib.Dec.{eqb}
use Rattle.texts.specs.Text.{bytes}
use Rattle.tables.proofs.Counts.{sized_most}
use Rattle.tables.proofs.Numbers.{field_one}
use Rattle.net.specs.Table.{net_of, action_at, mark_at, optional_at, table_sized, transitions}
use Rattle.pnml_shape.specs.Drawing.{Arc, joined, openings, arcs}
use Rattle.pnml_shape.specs.Drawing as drawing
use Rattle.pnml_net.specs.Nets.{countdown, mark_of, entry_by, entry_of, drawing_of}
use Rattle.pnml_net.proofs.Entries.{entry_decoded}
use Rattle.pnml_put.specs.Put.{body_text, net_text, places_text, transitions_text, entry_at, table_arcs}
use Rattle.pnml_put.proofs.Pieces.{whole_text}
use Rattle.pnml_put.proofs.Arcs.{table-arcs}

countdown_same : (f g : ℕ → ℕ) (n : ℕ) → ((t : ℕ) → t < n → f t ≡ g t) → countdown f n ≡ countdown g n
unfolding countdown
countdown_same f g zero h = refl
countdown_same f g (suc n) h = ap₂ (λ (x : ℕ) (l : List ℕ). x ∷ l) (h n (le_refl _)) (countdown_same f g n (λ t k. h t (omega arith)))

regroup : (a b c d e : List ℕ) → (a ++ (b ++ (c ++ d))) ++ e ≡ a ++ (b ++ (c ++ (d ++ e)))
regroup a b c d e = simp append_assoc

-- the entry, by the action and the byte after it
pub entry_read : (b : List ℕ) (t : ℕ) {a : ℕ} → a ≡ action_at b t → entry_by a (eqb (get_or b (t * 24 + 18) 0) 1) ≡ entry_at b t
unfolding entry_at optional_at mark_at
entry_read b t e = ap₂ (λ (x y : ℕ). entry_by x (eqb y 1)) e (field_one (t * 24 + 18) b)

module _ (b : List ℕ) (sized : table_sized b ≡ true) where
  pub count_most : transitions b ≤ 64
  unfolding table_sized transitions
  count_most = sized_most 24 1 64 (length b) sized

  module _ (n m : ℕ) where
    decoded_entry : (t : ℕ) → t < transitions b → entry_at b t ≡ entry_of (net_of n b) t
    unfolding entry_at
    decoded_entry t h = sym (entry_decoded n b sized t h)

    pub net-text : body_text b n m (transitions b) ++ bytes "</page></net></pnml>" ≡ net_text b n m
    unfolding net_text drawing_of net_of
    net-text =
        regroup (joined openings) (places_text (mark_of m) n) (transitions_text (entry_at b) (transitions b))
        (joined (arcs (table_arcs b n (transitions b)))) (bytes "</page></net></pnml>")
        ∙ ap₂
        (λ (l : List ℕ) (a : List Arc).
        joined openings ++ (places_text (mark_of m) n ++ (joined (drawing.transitions l) ++ (joined (arcs a) ++ bytes "</page></net></pnml>"))))
        (countdown_same (entry_at b) (entry_of (net_of n b)) (transitions b) decoded_entry)
        (table-arcs b n (transitions b) sized (le_refl _))
        ∙ whole_text (drawing_of (net_of n b) m)
