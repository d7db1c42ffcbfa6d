-- Serves the code's proof: contracts cite it, no meaning depends on it. What the code has of the drawing that it has read so far.
-- Assumes nothing.
use Rattle.std.specs.Prelude.{ℕ, ◌≤◌, ◌<◌, ◌≡◌, Bool, true, false, cond, not, ◌&&◌, List, length, get_or, set, ltb, eqb}
use Rattle.bitset.specs.Sets.{add}
use Rattle.pnml_shape.specs.Drawing.{Arc, Drawing}
use Rattle.pnml_net.specs.Nets.{numbered, marking_of, set_of}

-- tables of 64 numbers hold the sets and entries of a drawing's transitions; the sets do where it has at most 64 places
pub record Holds (d : Drawing) (marking : ℕ) (pre post action : List ℕ) : Type 0 where
  pub pre_size : length pre ≡ 64
  pub post_size : length post ≡ 64
  pub action_size : length action ≡ 64
  pub marks : length d.marks ≤ 64 → marking ≡ marking_of d.marks
  pub pres : length d.marks ≤ 64 → (t : ℕ) → t < 64 → get_or pre t 0 ≡ set_of d.arcs t false
  pub posts : length d.marks ≤ 64 → (t : ℕ) → t < 64 → get_or post t 0 ≡ set_of d.arcs t true
  pub actions : (t : ℕ) → t < 64 → t < length d.actions → get_or action t 0 ≡ numbered d.actions t

-- the marking with one place more, where there is room for it
unfoldable pub marked : (marking places mark : ℕ) → ℕ
marked m P v = cond (ltb P 64) (add m P (eqb v 1)) m

-- a table with one entry more
unfoldable pub noted : List ℕ → (t v : ℕ) → List ℕ
noted l t v = cond (ltb t 64) (set l t v) l

-- a table of sets with one arc more, where the arc is one of its kind (pre or post)
unfoldable pub joined_to : List ℕ → (own : Bool) (transition place : ℕ) → List ℕ
joined_to l own t p = cond (own && (ltb t 64 && ltb p 64)) (set l t (add (get_or l t 0) p true)) l
