-- The reader as a machine over the bytes of a text. It serves the code's proof: contracts cite it, and no meaning depends on it; proofs/Exact ties
-- it to the shape. Assumes nothing.
use Rattle.std.specs.Prelude.{ℕ, zero, suc, ◌+◌, ◌-◌, ◌*◌, ◌/◌, Bool, true, false, cond, not, ◌&&◌, ◌||◌, List, [], ◌∷◌, ◌++◌, length, eqb, ltb, leb}
use Rattle.std.proofs.Math.Option.{Option, none, some}
use Rattle.texts.specs.Text.{bytes}
use Rattle.pnml_shape.specs.Drawing.{Arc, Drawing}
use Rattle.pnml_shape.specs.Shape.{white}

-- what may follow
pub data Format : Type 0 where
  -- white space and the end; the text draws this
  ends : Drawing → Format
  -- this byte
  byte : ℕ → Format → Format
  -- white space, then the rest
  space : Format → Format
  -- this byte and the first rest, where allowed; else the second rest
  either : ℕ → (allowed : Bool) → Format → Format → Format
  -- a number from lo to hi, which settles the rest
  number : (lo hi : ℕ) → (ℕ → Format) → Format
  -- the same after digits that make v
  digits : (v lo hi : ℕ) → (ℕ → Format) → Format
  -- white space, then a further element of this drawing, or its end
  turn : Drawing → Format

-- these bytes
unfoldable pub spell : List ℕ → Format → Format
spell [] F = F
spell (b ∷ w) F = byte b (spell w F)

-- ---- the elements

abbrev pub add_place : Drawing → ℕ → Drawing
add_place d m = record { marks = m ∷ d.marks; actions = d.actions; arcs = d.arcs }

abbrev pub add_transition : Drawing → ℕ → Drawing
add_transition d a = record { marks = d.marks; actions = a ∷ d.actions; arcs = d.arcs }

abbrev pub add_arc : Drawing → Arc → Drawing
add_arc d a = record { marks = d.marks; actions = d.actions; arcs = a ∷ d.arcs }

-- after `<p`
unfoldable pub place_format : Drawing → Format
place_format d =
    spell (bytes "lace id=\"p") (number (length d.marks) (length d.marks) (λ i.
    spell (bytes "\">") (space (spell (bytes "<initialMarking>") (space (spell (bytes "<text>") (number 0 1 (λ m.
    spell (bytes "</text>") (space (spell (bytes "</initialMarking>") (space (spell (bytes "</place>") (turn (add_place d m))))))))))))))

-- after `<t`
unfoldable pub transition_format : Drawing → Format
transition_format d =
    spell (bytes "ransition id=\"t") (number (length d.actions) (length d.actions) (λ i.
    spell (bytes "\">") (space (spell (bytes "<name>") (space (spell (bytes "<text>") (number 0 65535 (λ a.
    spell (bytes "</text>") (space (spell (bytes "</name>") (space (byte 60 (either 116 true
    (spell (bytes "oolspecific tool=\"desk\" version=\"1\"/>") (space (spell (bytes "</transition>") (turn (add_transition d (a + 65536))))))
    (spell (bytes "/transition>") (turn (add_transition d a))))))))))))))))

-- the least arc above another, with so many places: at the next place, else at the first place of the post set or of the next transition
unfoldable pub after : (places : ℕ) → Arc → Arc
after P a =
    cond (ltb (a.place + 1) P)
    (record { transition = a.transition; post = a.post; place = a.place + 1 })
    (cond a.post
    (record { transition = a.transition + 1; post = false; place = 0 })
    (record { transition = a.transition; post = true; place = 0 }))

-- the least arc that can follow these
unfoldable pub least : (places : ℕ) → List Arc → Arc
least P [] = record { transition = 0; post = false; place = 0 }
least P (a ∷ l) = after P a

-- an arc can still follow
unfoldable pub arc_open : (places transitions : ℕ) → (least : Arc) → Bool
arc_open P T l = ltb l.place P && ltb l.transition T

-- one into a transition can
unfoldable pub pre_open : (transitions : ℕ) → (least : Arc) → Bool
pre_open T l = not l.post || ltb (l.transition + 1) T

-- its lowest place, and the lowest transition for a place
unfoldable pub pre_from : (transitions : ℕ) → (least : Arc) → ℕ
pre_from T l = cond (ltb (l.transition + 1) T) 0 l.place

unfoldable pub pre_into : (least : Arc) → (place : ℕ) → ℕ
pre_into l p = cond (not l.post && leb l.place p) l.transition (l.transition + 1)

-- the lowest place of one out of a transition
unfoldable pub post_into : (least : Arc) → (transition : ℕ) → ℕ
post_into l t = cond (l.post && eqb t l.transition) l.place 0

-- after `<a`, for a drawing with so many places and transitions and this least arc
unfoldable pub arc_format : Drawing → (places transitions : ℕ) → (least : Arc) → Format
arc_format d P T l =
    spell (bytes "rc id=\"a") (number (length d.arcs) (length d.arcs) (λ i.
    spell (bytes "\" source=\"") (either 112 (pre_open T l)
    (number (pre_from T l) (P - 1) (λ p. spell (bytes "\" target=\"t") (number (pre_into l p) (T - 1) (λ t.
    spell (bytes "\"/>") (turn (add_arc d (record { transition = t; post = false; place = p })))))))
    (byte 116 (number l.transition (T - 1) (λ t. spell (bytes "\" target=\"p") (number (post_into l t) (P - 1) (λ p.
    spell (bytes "\"/>") (turn (add_arc d (record { transition = t; post = true; place = p })))))))))))

-- after `</`
unfoldable pub closing : Drawing → Format
closing d = spell (bytes "page>") (space (spell (bytes "</net>") (space (spell (bytes "</pnml>") (ends d)))))

-- after `<`: places while there is no transition, transitions while there is no arc, arcs while one can follow
unfoldable pub opened : Drawing → Format
opened d =
    either 112 (eqb (length d.actions) 0) (place_format d) (either 116 (eqb (length d.arcs) 0) (transition_format d)
    (either 97 (arc_open (length d.marks) (length d.actions) (least (length d.marks) d.arcs))
    (arc_format d (length d.marks) (length d.actions) (least (length d.marks) d.arcs)) (byte 47 (closing d))))

-- a whole text
unfoldable pub start : Format
start =
    spell (bytes "<pnml xmlns=\"http://www.pnml.org/version-2009/grammar/pnml\">")
    (space (spell (bytes "<net id=\"n\" type=\"http://www.pnml.org/version-2009/grammar/ptnet\">")
    (space (spell (bytes "<page id=\"g\">") (turn (record { marks = []; actions = []; arcs = [] }))))))

-- ---- one byte

unfoldable pub digit : ℕ → Bool
digit b = leb 48 b && leb b 57

-- some number from lo to hi begins with the digits of v: v is from lo / 10^j to hi / 10^j for some j, and for 0 this j is 0
unfoldable pub begins : (fuel v lo hi : ℕ) → Bool
begins zero v lo hi = false
begins (suc f) v lo hi = (leb lo v && leb v hi) || (ltb 0 v && begins f v (lo / 10) (hi / 10))

unfoldable pub possible : (v lo hi : ℕ) → Bool
possible v lo hi = begins (suc hi) v lo hi

-- what may follow a format's first byte; none where it cannot be that byte
unfoldable pub step : Format → ℕ → Option Format
step (ends d) b = cond (white b) (some (ends d)) none
step (byte c F) b = cond (eqb b c) (some F) none
step (space F) b = cond (white b) (some (space F)) (step F b)
step (either c ok F G) b = cond (eqb b c && ok) (some F) (step G b)
step (number lo hi K) b = cond (digit b && possible (b - 48) lo hi) (some (digits (b - 48) lo hi K)) none
step (digits v lo hi K) b =
    cond (digit b)
    (cond (ltb 0 v && possible (10 * v + (b - 48)) lo hi) (some (digits (10 * v + (b - 48)) lo hi K)) none)
    (cond (leb lo v && leb v hi) (step (K v) b) none)
step (turn d) b = cond (white b) (some (turn d)) (cond (eqb b 60) (some (opened d)) none)

-- ---- a text

pub data Outcome : Type 0 where
  stopped : ℕ → Outcome
  drawn : Drawing → Outcome

-- the end of the text at an offset
unfoldable pub finish : Format → ℕ → Outcome
finish (ends d) at = drawn d
finish (byte c F) at = stopped at
finish (space F) at = stopped at
finish (either c ok F G) at = stopped at
finish (number lo hi K) at = stopped at
finish (digits v lo hi K) at = stopped at
finish (turn d) at = stopped at

-- go on where there is a format
unfoldable pub or_stop : Option Format → (at : ℕ) → (Format → Outcome) → Outcome
or_stop none at f = stopped at
or_stop (some F) at f = f F

-- what stands from an offset on
unfoldable pub scan : Format → (at : ℕ) → List ℕ → Outcome
scan F at [] = finish F at
scan F at (b ∷ s) = or_stop (step F b) at (λ G. scan G (at + 1) s)
