-- Serves the code's proof: contracts cite it, no meaning depends on it. One turn of the reader, and what it has read so far.
-- Assumes nothing.
use Rattle.std.specs.Prelude.{ℕ, ◌+◌, ◌≤◌, ◌<◌, ◌≡◌, false, not, List, length, drop, replicate}
use Rattle.pnml_shape.specs.Drawing.{Arc, Drawing}
use Rattle.pnml_shape.specs.Machine.{Format, turn, add_place, add_transition, add_arc, after, least, Outcome, stopped, drawn, scan}
use Rattle.pnml_shape.specs.Theorem.{reading}
use Rattle.std.specs.Prelude.{Option, None, Some, Result, Ok, Err}
use Rattle.pnml_scan.specs.declared.Arc.{Arc as CodeArc}
use Rattle.pnml_scan.specs.declared.ArcRead.{ArcRead}
use Rattle.pnml_scan.specs.declared.Left.{Left}
use Rattle.pnml_scan.specs.Serving.{arc_of}
use Rattle.pnml_state.specs.declared.Entries.{Entries}
use Rattle.pnml_state.specs.Serving.{Holds, joined_to}
use Rattle.pnml_turn.specs.declared.Turn.{Turn}
use Rattle.pnml_turn.specs.declared.Turn.TheVariants.{Place, Transition, Join, End}
use Rattle.pnml_turn.specs.declared.State.{State}
use Rattle.pnml_turn.specs.declared.Reading.{Reading}
use Rattle.pnml_turn.specs.declared.Stopped.{Stopped}

-- what a turn leads to, in a text and after a drawing
unfoldable pub turned : Drawing → Result Turn Left → (text : List ℕ) → Outcome
turned d (Ok (Place n)) t = scan (turn (add_place d n.value)) n.at (drop n.at t)
turned d (Ok (Transition n)) t = scan (turn (add_transition d n.value)) n.at (drop n.at t)
turned d (Ok (Join a)) t = scan (turn (add_arc d (arc_of a.arc))) a.at (drop a.at t)
turned d (Ok End) t = drawn d
turned d (Err e) t = stopped e.at

-- an element ends inside the text, not before an offset, and is one of so many places and transitions
unfoldable pub Sane : (text : List ℕ) (from places transitions : ℕ) → Result Turn Left → Type 0
Sane t from P T (Ok (Place n)) = (from ≤ n.at) × (n.at ≤ length t) × (n.value ≤ 1)
Sane t from P T (Ok (Transition n)) = (from ≤ n.at) × (n.at ≤ length t) × (n.value ≤ 131071)
Sane t from P T (Ok (Join a)) = (from ≤ a.at) × (a.at ≤ length t) × (a.arc.place < P) × (a.arc.transition < T)
Sane t from P T (Ok End) = Unit
Sane t from P T (Err e) = Unit

-- a place comes before all transitions
unfoldable pub Alone : (transitions : ℕ) → Result Turn Left → Type 0
Alone T (Ok (Place n)) = T ≡ 0
Alone T (Ok (Transition n)) = Unit
Alone T (Ok (Join a)) = Unit
Alone T (Ok End) = Unit
Alone T (Err e) = Unit

-- so many places, transitions and arcs, and the least arc that can follow
pub record Fits (d : Drawing) (P T A : ℕ) (l : Arc) : Type 0 where
  pub places : length d.marks ≡ P
  pub transitions : length d.actions ≡ T
  pub arcs : length d.arcs ≡ A
  pub first : least P d.arcs ≡ l

-- a turn that a format takes from an offset on, or the offset where the text leaves the shape
pub record Seen (t : List ℕ) (at from P T A : ℕ) (l : Arc) (F : Drawing → Format) (r : Result Turn Left) : Type 0 where
  pub sane : Sane t from P T r
  pub alone : Alone T r
  pub same : (d : Drawing) → Fits d P T A l → scan (F d) at (drop at t) ≡ turned d r t

-- ---- what was read so far

-- the states that follow
abbrev pub placed_state : State → (marking at : ℕ) → State
placed_state s m k =
    record { at = k; places = s.places + 1; transitions = s.transitions; arcs = s.arcs; marking = m; least = s.least }

abbrev pub transition_state : State → (at : ℕ) → State
transition_state s k =
    record { at = k; places = s.places; transitions = s.transitions + 1; arcs = s.arcs; marking = s.marking; least = s.least }

abbrev pub joined_state : State → CodeArc → (at : ℕ) → State
joined_state s l k =
    record { at = k; places = s.places; transitions = s.transitions; arcs = s.arcs + 1; marking = s.marking; least = l }

-- what a state has read
abbrev pub reading_of : State → Reading
reading_of s = record { places = s.places; transitions = s.transitions; marking = s.marking }

-- an arc was put: the state and the entries after it
pub record Put (s : State) (a : ArcRead) (r : State) (before later : Entries) : Type 0 where
  pub following : CodeArc
  pub comes : arc_of following ≡ after s.places (arc_of a.arc)
  pub state : r ≡ joined_state s following a.at
  pub into : later.pre ≡ joined_to before.pre (not a.arc.post) a.arc.transition a.arc.place
  pub out : later.post ≡ joined_to before.post a.arc.post a.arc.transition a.arc.place
  pub rest : later.action ≡ before.action

-- the offset is inside the text, and no more elements stand before it than bytes; without transitions there are no arcs
pub record Bounds (t : List ℕ) (s : State) : Type 0 where
  pub inside : s.at ≤ length t
  pub places : s.places ≤ s.at
  pub transitions : s.transitions ≤ s.at
  pub arcs : s.arcs ≤ s.at
  pub none : s.transitions ≡ 0 → s.arcs ≡ 0

-- the text reads as the drawing so far and the rest of the text
pub record Read (t : List ℕ) (s : State) (pre post action : List ℕ) : Type 0 where
  pub drawing : Drawing
  pub fits : Fits drawing s.places s.transitions s.arcs (arc_of s.least)
  pub holds : Holds drawing s.marking pre post action
  pub same : reading t ≡ scan (turn drawing) s.at (drop s.at t)
  pub bounds : Bounds t s

-- the same with a turn ahead
pub record Ahead (t : List ℕ) (s : State) (r : Result Turn Left) (pre post action : List ℕ) : Type 0 where
  pub drawing : Drawing
  pub fits : Fits drawing s.places s.transitions s.arcs (arc_of s.least)
  pub holds : Holds drawing s.marking pre post action
  pub same : reading t ≡ turned drawing r t
  pub sane : Sane t (s.at + 1) s.places s.transitions r
  pub alone : Alone s.transitions r
  pub bounds : Bounds t s

-- one step on
pub record Further (t : List ℕ) (s r : State) (pre post action : List ℕ) : Type 0 where
  pub read : Read t r pre post action
  pub further : s.at < r.at

-- the text was read to its end: the tables hold what it draws, with so many places and transitions
pub record ReadAll (t : List ℕ) (P T marking : ℕ) (pre post action : List ℕ) : Type 0 where
  pub drawing : Drawing
  pub places : length drawing.marks ≡ P
  pub transitions : length drawing.actions ≡ T
  pub holds : Holds drawing marking pre post action
  pub same : reading t ≡ drawn drawing

-- the text leaves the shape at an offset: the tables hold what it drew before, with so many places and transitions
pub record ReadPart (t : List ℕ) (at P T marking : ℕ) (pre post action : List ℕ) : Type 0 where
  pub drawing : Drawing
  pub places : length drawing.marks ≡ P
  pub transitions : length drawing.actions ≡ T
  pub holds : Holds drawing marking pre post action
  pub same : reading t ≡ stopped at

-- one step on, the end, or where the text leaves the shape
abbrev pub Moved : (t : List ℕ) (s : State) → Result (Option State) Stopped → (pre post action : List ℕ) → Type 0
Moved t s (Ok (Some r)) pre post action = Further t s r pre post action
Moved t s (Ok None) pre post action = ReadAll t s.places s.transitions s.marking pre post action
Moved t s (Err e) pre post action = ReadPart t e.at e.before.places e.before.transitions e.before.marking pre post action

-- ---- the whole text

abbrev pub begun : (at : ℕ) → State
begun k =
    record {
      at = k;
      places = 0;
      transitions = 0;
      arcs = 0;
      marking = 0;
      least = record { transition = 0; post = false; place = 0 };
    }

-- a table of 64 entries before anything is kept in it
abbrev pub no_entry : List ℕ
no_entry = replicate 64 0

-- the text was read to its end or to the offset where it leaves the shape, and the tables hold what it draws
abbrev pub ReadWhole : (t : List ℕ) → Result Reading Stopped → (pre post action : List ℕ) → Type 0
ReadWhole t (Ok r) pre post action = ReadAll t r.places r.transitions r.marking pre post action
ReadWhole t (Err e) pre post action = ReadPart t e.at e.before.places e.before.transitions e.before.marking pre post action
