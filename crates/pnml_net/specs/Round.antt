-- A net with a marking drawn and read back, and a drawing read and drawn again (document 02, F-1). Assumes nothing.
use Rattle.std.specs.Prelude.{ℕ, ◌≤◌, ◌<◌, ◌≡◌, true, List, length, get_or}
use Rattle.net.specs.Table.{transitions, net_of}
use Rattle.net.specs.Answer.{load_fault}
use Rattle.pnml_shape.specs.Drawing.{Drawing, good}
use Rattle.pnml_net.specs.Nets.{drawing_of, marking_of, records_of}

-- the drawing of the net that a table holds, with a marking
abbrev pub drawn : (places marking : ℕ) (bytes : List ℕ) → Drawing
drawn places m bytes = drawing_of (net_of places bytes) m

-- it is good, and from it come the places, the marking and the bytes again, which are 1 to 64 records
pub record RoundTrip (places m : ℕ) (bytes : List ℕ) : Type 0 where
  pub fine : good (drawn places m bytes) ≡ true
  pub places_back : length (drawn places m bytes).marks ≡ places
  pub marking_back : marking_of (drawn places m bytes).marks ≡ m
  pub transitions_back : length (drawn places m bytes).actions ≡ transitions bytes
  pub least : 1 ≤ transitions bytes
  pub most : transitions bytes ≤ 64
  pub records_back : records_of (drawn places m bytes).arcs (drawn places m bytes).actions ≡ bytes

-- ---- a drawing read as a net with a marking, and drawn again

abbrev pub places_in : Drawing → ℕ
places_in d = length d.marks

abbrev pub transitions_in : Drawing → ℕ
transitions_in d = length d.actions

-- what is read is bytes in which loading finds no fault, and drawn again it is the same
pub record ReadTrip (d : Drawing) : Type 0 where
  pub are_bytes : (i : ℕ) → get_or (records_of d.arcs d.actions) i 0 < 256
  pub loads : (load_fault (places_in d) (marking_of d.marks) (records_of d.arcs d.actions)).number ≡ 0
  pub again : drawn (places_in d) (marking_of d.marks) (records_of d.arcs d.actions) ≡ d
