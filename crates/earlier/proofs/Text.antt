-- The PNML text of a table without marks. Assumes nothing.
use mathlib.Core.Path.{◌≡◌, refl, sym, ap, ap₂, ◌∙◌}
use mathlib.Core.Bool.{Bool, true, false, cond}
use mathlib.Core.List.{List, ◌++◌}
use Prim.Native.Nat.{ℕ, zero, suc, ◌+◌, ◌-◌, ◌*◌, ◌<◌}
use native.Mathlib.Nat.{add-zero}
use native.Mathlib.Omega.{arith}
use lib.ListN.{length, get_or}
use lib.Dec.{eqb, ltb}
use borrow.Author.Tests.{lt-ltb}
use Rattle.bitset.proofs.Membership.{member_empty}
use Rattle.tables.specs.Lists.{tab, up_to}
use Rattle.tables.proofs.Numbers.{Bytes, field_lt}
use Rattle.net.specs.Step.{action_of}
use Rattle.net.specs.Table.{action_at, transitions}
use Rattle.pnml_shape.specs.Drawing.{openings, places, pressed_pieces, optional_pieces, transition_pieces, arcs, closings, joined, pieces, written}
use Rattle.pnml_shape.specs.Drawing as drawing
use Rattle.pnml_net.specs.Nets.{countdown, mark_of, entry_by, entry_of, net_arcs, drawing_of}
use Rattle.pnml_net.proofs.Marks.{countdown_length}
use Rattle.pnml_write.specs.Answer.{refuse, put_answer, text_of, write_answer}
use Rattle.earlier.specs.Tables.{earlier_net_of}
use Rattle.earlier.specs.Text.{earlier_transitions, earlier_text, earlier_write_answer}
use Rattle.earlier.specs.AsBefore.{Unmarked}
use Rattle.earlier.proofs.Tables.{net_is, load_is}

-- an entry of a list whose entries are below a bound
entry_below : (f : ℕ → ℕ) (b : ℕ) → 0 < b → ((i : ℕ) → f i < b) → (n t : ℕ) → get_or (tab f n) t 0 < b
unfolding tab
entry_below f b z h zero t = z
entry_below f b z h (suc n) zero = h 0
entry_below f b z h (suc n) (suc t) = entry_below (λ i. f (suc i)) b z (λ i. h (suc i)) n t

module _ (net : List ℕ) (are_bytes : (i : ℕ) → get_or net i 0 < 256) where
  action_below : (i : ℕ) → up_to (action_at net) (transitions net) i < 65536
  unfolding up_to action_at Bytes
  action_below i = by (ltb i (transitions net))
    where
      by : (b : Bool) → cond b (action_at net i) 0 < 65536
      by true = field_lt 2 (i * 24 + 16) net are_bytes
      by false = omega arith

  module _ (P : ℕ) where
    -- a transition's pieces are those of a pressed one
    piece_is : (i t : ℕ) → transition_pieces i (entry_of (earlier_net_of P net) t) ≡ pressed_pieces i (action_of (earlier_net_of P net) t)
    unfolding transition_pieces entry_of entry_by earlier_net_of
    piece_is i t =
        ap (λ b. transition_pieces i (action_of (earlier_net_of P net) t + cond b 65536 0)) (member_empty t)
        ∙ ap (transition_pieces i) (add-zero (action_of (earlier_net_of P net) t))
        ∙ ap (λ b. cond b (pressed_pieces i (action_of (earlier_net_of P net) t)) (optional_pieces i (action_of (earlier_net_of P net) t - 65536)))
        (lt-ltb (action_of (earlier_net_of P net) t) 65536 (entry_below (up_to (action_at net) (transitions net)) 65536 (omega arith) action_below 64 t))

    transitions_are : (n : ℕ) → drawing.transitions (countdown (entry_of (earlier_net_of P net)) n) ≡ earlier_transitions (countdown (action_of (earlier_net_of P net)) n)
    unfolding drawing.transitions earlier_transitions countdown
    transitions_are zero = refl
    transitions_are (suc n) =
        ap₂ ◌++◌ (transitions_are n)
        (ap (λ (i : ℕ). transition_pieces i (entry_of (earlier_net_of P net) n)) (countdown_length (entry_of (earlier_net_of P net)) n ∙ sym (countdown_length (action_of (earlier_net_of P net)) n))
        ∙ piece_is (length (countdown (action_of (earlier_net_of P net)) n)) n)

    text-is : (m : ℕ) → written (drawing_of (earlier_net_of P net) m) ≡ earlier_text (earlier_net_of P net) m
    unfolding written pieces drawing_of earlier_text
    text-is m =
        ap (λ l. joined (openings ++ (places (countdown (mark_of m) (earlier_net_of P net).places) ++ (l ++ (arcs (net_arcs (earlier_net_of P net) (earlier_net_of P net).transitions) ++ closings)))))
        (transitions_are (earlier_net_of P net).transitions)

pub write_is : (net : List ℕ) → Unmarked net → ((i : ℕ) → get_or net i 0 < 256) → (places m : ℕ) (room : List ℕ)
    → write_answer places m net room ≡ earlier_write_answer places m net room
unfolding write_answer text_of earlier_write_answer
write_is net plain are_bytes P m room =
    ap₂ (λ f text. cond (eqb f.number 0) (put_answer text room) (refuse f room)) (load_is net plain P m)
    (ap (λ N. written (drawing_of N m)) (net_is net plain P) ∙ text-is net are_bytes P m)
