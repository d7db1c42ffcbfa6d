-- What a PNML text draws, and the text of a drawing (document 02, F-1 and F-4). Assumes nothing.
use Rattle.std.specs.Prelude.{ℕ, ◌+◌, ◌-◌, ◌*◌, Bool, true, false, cond, ◌&&◌, ◌||◌, List, [], ◌∷◌, ◌++◌, length, eqb, ltb, leb}
use Rattle.texts.specs.Text.{bytes, decimal}

-- an arc between a place and a transition: into the transition (pre), or out of it (post)
pub record Arc : Type 0 where
  pub transition : ℕ
  pub post : Bool
  pub place : ℕ

-- places by their marks, transitions by their actions, and arcs. The action of an optional transition has 65,536 added, as if bytes 16 to 18 of its
-- record were one number. Each list has the last one first: the number of an element is how many stand after it in the list.
pub record Drawing : Type 0 where
  pub marks : List ℕ
  pub actions : List ℕ
  pub arcs : List Arc

-- ---- its text, cut after each `>` but that of <text>

unfoldable pub openings : List (List ℕ)
openings =
    bytes "<pnml xmlns=\"http://www.pnml.org/version-2009/grammar/pnml\">"
    ∷ bytes "<net id=\"n\" type=\"http://www.pnml.org/version-2009/grammar/ptnet\">"
    ∷ bytes "<page id=\"g\">"
    ∷ []

-- the place with this number and mark
unfoldable pub place_pieces : (number mark : ℕ) → List (List ℕ)
place_pieces i m =
    (bytes "<place id=\"p" ++ (decimal i ++ bytes "\">"))
    ∷ bytes "<initialMarking>"
    ∷ (bytes "<text>" ++ (decimal m ++ bytes "</text>"))
    ∷ bytes "</initialMarking>"
    ∷ bytes "</place>"
    ∷ []

-- the transition with this number and action, pressed
unfoldable pub pressed_pieces : (number action : ℕ) → List (List ℕ)
pressed_pieces i a =
    (bytes "<transition id=\"t" ++ (decimal i ++ bytes "\">"))
    ∷ bytes "<name>"
    ∷ (bytes "<text>" ++ (decimal a ++ bytes "</text>"))
    ∷ bytes "</name>"
    ∷ bytes "</transition>"
    ∷ []

-- the same, optional
unfoldable pub optional_pieces : (number action : ℕ) → List (List ℕ)
optional_pieces i a =
    (bytes "<transition id=\"t" ++ (decimal i ++ bytes "\">"))
    ∷ bytes "<name>"
    ∷ (bytes "<text>" ++ (decimal a ++ bytes "</text>"))
    ∷ bytes "</name>"
    ∷ bytes "<toolspecific tool=\"desk\" version=\"1\"/>"
    ∷ bytes "</transition>"
    ∷ []

-- the transition with this number and this entry of a drawing
unfoldable pub transition_pieces : (number entry : ℕ) → List (List ℕ)
transition_pieces i a = cond (ltb a 65536) (pressed_pieces i a) (optional_pieces i (a - 65536))

-- the arc with this number
unfoldable pub arc_piece : (number : ℕ) → Arc → List ℕ
arc_piece i a =
    bytes "<arc id=\"a" ++ (decimal i ++ (bytes "\" source=\"" ++ (cond a.post
    (bytes "t" ++ (decimal a.transition ++ (bytes "\" target=\"p" ++ decimal a.place)))
    (bytes "p" ++ (decimal a.place ++ (bytes "\" target=\"t" ++ decimal a.transition))) ++ bytes "\"/>")))

unfoldable pub closings : List (List ℕ)
closings = bytes "</page>" ∷ bytes "</net>" ∷ bytes "</pnml>" ∷ []

unfoldable pub places : List ℕ → List (List ℕ)
places [] = []
places (m ∷ l) = places l ++ place_pieces (length l) m

unfoldable pub transitions : List ℕ → List (List ℕ)
transitions [] = []
transitions (a ∷ l) = transitions l ++ transition_pieces (length l) a

unfoldable pub arcs : List Arc → List (List ℕ)
arcs [] = []
arcs (a ∷ l) = arcs l ++ (arc_piece (length l) a ∷ [])

unfoldable pub pieces : Drawing → List (List ℕ)
pieces d = openings ++ (places d.marks ++ (transitions d.actions ++ (arcs d.arcs ++ closings)))

unfoldable pub joined : List (List ℕ) → List ℕ
joined [] = []
joined (p ∷ ps) = p ++ joined ps

-- the text that is written: no white space
unfoldable pub written : Drawing → List ℕ
written d = joined (pieces d)

-- ---- good drawings

-- the order of arcs: by transition, pre before post
unfoldable pub rank : Arc → ℕ
rank a = 2 * a.transition + cond a.post 1 0

-- then by place
unfoldable pub lower : Arc → Arc → Bool
lower a b = ltb (rank a) (rank b) || (eqb (rank a) (rank b) && ltb a.place b.place)

-- higher than the last of these arcs
unfoldable pub rises : List Arc → Arc → Bool
rises [] a = true
rises (b ∷ l) a = lower b a

-- so many places and transitions have these arcs, once each and rising
unfoldable pub arcs_good : (places transitions : ℕ) → List Arc → Bool
arcs_good P T [] = true
arcs_good P T (a ∷ l) = (ltb a.place P && ltb a.transition T) && (rises l a && arcs_good P T l)

-- none is above the bound
unfoldable pub at_most : (bound : ℕ) → List ℕ → Bool
at_most n [] = true
at_most n (x ∷ l) = leb x n && at_most n l

-- marks 0 or 1, actions 0 to 65,535 and the same again for the optional transitions, good arcs
unfoldable pub good : Drawing → Bool
good d = at_most 1 d.marks && (at_most 131071 d.actions && arcs_good (length d.marks) (length d.actions) d.arcs)
