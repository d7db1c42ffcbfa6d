-- The drawing of a net with a marking, and the places, marking and records of a drawing (document 02, F-1 and F-4). Assumes nothing.
use Rattle.std.specs.Prelude.{ℕ, zero, suc, ◌+◌, Bool, true, false, cond, not, ◌&&◌, List, [], ◌∷◌, ◌++◌, length, eqb}
use Rattle.stores.specs.Low.{low_bytes}
use Rattle.bitset.specs.Sets.{member, add}
use Rattle.net.specs.declared.Net.{Net}
use Rattle.net.specs.Step.{pre_of, post_of, action_of}
use Rattle.pnml_shape.specs.Drawing.{Arc, Drawing}

-- ---- a net as a drawing

-- f of the numbers below n, the last first
unfoldable pub countdown : (ℕ → ℕ) → ℕ → List ℕ
countdown f zero = []
countdown f (suc n) = f n ∷ countdown f n

-- the element of such a list with a number: as many stand after it
unfoldable pub numbered : List ℕ → ℕ → ℕ
numbered [] t = 0
numbered (a ∷ l) t = cond (eqb t (length l)) a (numbered l t)

unfoldable pub mark_of : (marking place : ℕ) → ℕ
mark_of m p = cond (member m p) 1 0

-- the arcs between a transition and those of so many places that a set has, the last first
unfoldable pub arcs_by : (set transition : ℕ) (post : Bool) (places : ℕ) → List Arc
arcs_by s t post zero = []
arcs_by s t post (suc p) = cond (member s p) (record { transition = t; post = post; place = p } ∷ arcs_by s t post p) (arcs_by s t post p)

-- the arcs of the first n transitions: pre before post
unfoldable pub net_arcs : Net → (n : ℕ) → List Arc
net_arcs N zero = []
net_arcs N (suc t) = arcs_by (post_of N t) t true N.places ++ (arcs_by (pre_of N t) t false N.places ++ net_arcs N t)

-- an action, with 65,536 added where the transition is optional
unfoldable pub entry_by : (action : ℕ) (optional : Bool) → ℕ
entry_by a optional = a + cond optional 65536 0

-- the entry of a net's transition
unfoldable pub entry_of : Net → (transition : ℕ) → ℕ
entry_of N t = entry_by (action_of N t) (member N.optional t)

unfoldable pub drawing_of : Net → (marking : ℕ) → Drawing
drawing_of N m =
    record {
      marks = countdown (mark_of m) N.places;
      actions = countdown (entry_of N) N.transitions;
      arcs = net_arcs N N.transitions;
    }

-- ---- a drawing as places, marking and records

unfoldable pub marking_of : (marks : List ℕ) → ℕ
marking_of [] = 0
marking_of (m ∷ l) = add (marking_of l) (length l) (eqb m 1)

-- the arc is one of this transition's, pre or post
unfoldable pub joins : Arc → (transition : ℕ) (post : Bool) → Bool
joins a t post = eqb a.transition t && cond post a.post (not a.post)

-- the places of the transition's arcs
unfoldable pub set_of : List Arc → (transition : ℕ) (post : Bool) → ℕ
set_of [] t post = 0
set_of (a ∷ l) t post = add (set_of l t post) a.place (joins a t post)

-- a transition's record: action and mark are the entry's three bytes
unfoldable pub record_bytes : (pre post entry : ℕ) → List ℕ
record_bytes pre post entry = low_bytes 8 pre ++ (low_bytes 8 post ++ (low_bytes 3 entry ++ low_bytes 5 0))

-- the records of transitions with these entries, by all arcs of the drawing
unfoldable pub records_of : List Arc → (actions : List ℕ) → List ℕ
records_of arcs [] = []
records_of arcs (a ∷ l) = records_of arcs l ++ record_bytes (set_of arcs (length l) false) (set_of arcs (length l) true) a
