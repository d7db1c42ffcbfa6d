-- The PNML text of a net as it was defined before document 02's F-4: no transition has the tag. No contract cites this. Assumes nothing.
use Rattle.std.specs.Prelude.{ℕ, cond, List, [], ◌∷◌, ◌++◌, length, eqb}
use Rattle.net.specs.declared.Net.{Net}
use Rattle.net.specs.Step.{action_of}
use Rattle.pnml_shape.specs.Drawing.{openings, places, pressed_pieces, arcs, closings, joined}
use Rattle.pnml_net.specs.Nets.{countdown, mark_of, net_arcs}
use Rattle.pnml_write.specs.Answer.{Answer, refuse, put_answer}
use Rattle.earlier.specs.Tables.{earlier_net_of, earlier_load_fault}

-- the transitions with these actions, the last first
unfoldable pub earlier_transitions : List ℕ → List (List ℕ)
earlier_transitions [] = []
earlier_transitions (a ∷ l) = earlier_transitions l ++ pressed_pieces (length l) a

-- the text of a net with a marking
unfoldable pub earlier_text : Net → (marking : ℕ) → List ℕ
unfolding earlier_transitions
earlier_text N m =
    joined
    (openings
    ++ (places (countdown (mark_of m) N.places)
    ++ (earlier_transitions (countdown (action_of N) N.transitions) ++ (arcs (net_arcs N N.transitions) ++ closings))))

-- 1, 2, 3 and 7; then 12
unfoldable pub earlier_write_answer : (places marking : ℕ) (net room : List ℕ) → Answer
unfolding earlier_text earlier_load_fault earlier_net_of
earlier_write_answer places m bytes room =
    cond (eqb (earlier_load_fault places m bytes).number 0)
    (put_answer (earlier_text (earlier_net_of places bytes) m) room)
    (refuse (earlier_load_fault places m bytes) room)
