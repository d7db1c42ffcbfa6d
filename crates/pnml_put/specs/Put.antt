-- Serves the code's proof: contracts cite it, no meaning depends on it. Texts that are put into a room from an index on.
-- Assumes nothing.
use Rattle.std.specs.Prelude.{ℕ, zero, suc, ◌+◌, ◌*◌, ◌≤◌, ◌≡◌, Bool, true, false, cond, List, [], ◌∷◌, ◌++◌, length}
use Rattle.std.proofs.lemmas.List.Edits.{sets}
use Rattle.net.specs.Table.{net_of, pre_at, post_at, action_at, optional_at}
use Rattle.texts.specs.Text.{bytes, decimal}
use Rattle.pnml_shape.specs.Drawing.{Arc, arc_piece, joined, openings, places, transitions, arcs, written}
use Rattle.pnml_net.specs.Nets.{countdown, mark_of, arcs_by, entry_by, drawing_of}

-- a call that puts vs, at most so many bytes, from an index on, and answers the index after it: the bytes stand there, and all others stay
pub record Put (most : ℕ) (before after : List ℕ) (at : ℕ) (vs : List ℕ) (r : ℕ) : Type 0 where
  pub next : r ≡ at + length vs
  pub bound : r ≤ at + most
  pub bytes : after ≡ sets before at vs

-- a call that does so where after vs there is room for the text's end, 20 bytes
pub record Fit (most : ℕ) (before after : List ℕ) (at : ℕ) (vs : List ℕ) (r : ℕ) : Type 0 where
  pub few : length vs ≤ most
  pub inside : r ≤ length before
  pub kept : length after ≡ length before
  pub done : at + length vs + 20 ≤ length before → (r ≡ at + length vs) × (after ≡ sets before at vs)

-- a call that puts a whole text, at most so many bytes, where it fits
pub record Whole (most : ℕ) (before after vs : List ℕ) (r : ℕ) : Type 0 where
  pub few : length vs ≤ most
  pub done : length vs ≤ length before → (r ≡ length vs) × (after ≡ sets before 0 vs)

-- ---- what the calls put

-- places with these marks, transitions with these entries
abbrev pub places_text : (marks : ℕ → ℕ) (count : ℕ) → List ℕ
places_text f n = joined (places (countdown f n))

abbrev pub transitions_text : (entries : ℕ → ℕ) (count : ℕ) → List ℕ
transitions_text f n = joined (transitions (countdown f n))

-- a transition up to its action
abbrev pub named_text : (number action : ℕ) → List ℕ
named_text i a = bytes "<transition id=\"t" ++ (decimal i ++ (bytes "\"><name><text>" ++ decimal a))

-- an arc from one to another, each named by a letter and a number
abbrev pub arc_text : (number letter source other target : ℕ) → List ℕ
arc_text i v a w b = bytes "<arc id=\"a" ++ (decimal i ++ (bytes "\" source=\"" ++ ((v ∷ decimal a) ++ (bytes "\" target=\"" ++ ((w ∷ decimal b) ++ bytes "\"/>")))))

-- the entry of a table's transition
unfoldable pub entry_at : (bytes : List ℕ) (transition : ℕ) → ℕ
entry_at b t = entry_by (action_at b t) (optional_at b t)

-- the arc between a transition and a place
abbrev pub arc_of : (transition : ℕ) (post : Bool) (place : ℕ) → Arc
arc_of t post p = record { transition = t; post = post; place = p }

-- this arc where it is wanted
unfoldable pub arc_where : (wanted : Bool) (transition : ℕ) (post : Bool) (place : ℕ) → List Arc
arc_where b t post p = cond b (arc_of t post p ∷ []) []

-- the arcs of a transition with these sets, the last first: pre before post
abbrev pub arcs_at : (pre post transition places : ℕ) → List Arc
arcs_at pre post t n = arcs_by post t true n ++ arcs_by pre t false n

-- the arcs of a table's first n transitions
unfoldable pub table_arcs : (bytes : List ℕ) (places n : ℕ) → List Arc
table_arcs b places zero = []
table_arcs b places (suc t) = arcs_at (pre_at b t) (post_at b t) t places ++ table_arcs b places t

abbrev pub arcs_text : (bytes : List ℕ) (places n : ℕ) → List ℕ
arcs_text b places n = joined (arcs (table_arcs b places n))

-- the text of arcs, the last first, that follow so many others
unfoldable pub arcs_from : (others : ℕ) → List Arc → List ℕ
arcs_from n [] = []
arcs_from n (a ∷ l) = arcs_from n l ++ arc_piece (n + length l) a

-- a call that puts these arcs, at most so many, after others, and answers the index after them and how many there are then
pub record FitArcs (most : ℕ) (before after : List ℕ) (at others : ℕ) (l : List Arc) (r count : ℕ) : Type 0 where
  pub text : Fit (43 * most) before after at (arcs_from others l) r
  pub total : count ≡ others + length l
  pub few : count ≤ others + most

-- what stands before the end
abbrev pub body_text : (bytes : List ℕ) (places marking transitions : ℕ) → List ℕ
body_text b n m k = joined openings ++ (places_text (mark_of m) n ++ (transitions_text (entry_at b) k ++ arcs_text b n k))

-- the text of the net that a table holds, with a marking
unfoldable pub net_text : (bytes : List ℕ) (places marking : ℕ) → List ℕ
net_text b n m = written (drawing_of (net_of n b) m)
