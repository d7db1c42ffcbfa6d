-- Serves the code's proof: contracts cite it, no meaning depends on it. What the functions say of the part of a text that they read.
-- Assumes nothing.
use Rattle.std.specs.Prelude.{ℕ, ◌+◌, ◌-◌, ◌≤◌, ◌<◌, ◌≡◌, Bool, true, false, cond, ◌&&◌, List, [], length, drop, get_or, eqb, leb}
use Rattle.std.specs.Prelude.{Option, None, Some, Result, Ok, Err, IfOk}
use Rattle.std.proofs.Math.Option.{some}
use Rattle.pnml_shape.specs.Shape.{white}
use Rattle.texts.specs.Text.{bytes}
use Rattle.pnml_shape.specs.Drawing.{Arc, Drawing}
use Rattle.pnml_shape.specs.Machine.{Format, ends, space, number, digits, turn, either, byte, spell, add_place, add_transition, add_arc}
use Rattle.pnml_shape.specs.Machine.{pre_from, pre_into, post_into, arc_format}
use Rattle.pnml_shape.specs.Machine.{place_format, transition_format, closing, start, digit, step, Outcome, stopped, drawn, finish, scan}
pub use Rattle.pnml_quick.specs.declared.Number.{Number}
use Rattle.pnml_scan.specs.declared.Arc.{Arc as CodeArc}
use Rattle.pnml_scan.specs.declared.ArcRead.{ArcRead}
use Rattle.pnml_scan.specs.declared.Left.{Left}

-- the code's arc
abbrev pub arc_of : CodeArc → Arc
arc_of a = record { transition = a.transition; post = a.post; place = a.place }

-- the offset after a part that is there, or of the first byte that is not: of a part with no value, with a number, with an arc
abbrev pub end_of : Result ℕ Left → ℕ
end_of (Ok k) = k
end_of (Err e) = e.at

abbrev pub end_of_number : Result Number Left → ℕ
end_of_number (Ok n) = n.at
end_of_number (Err e) = e.at

abbrev pub end_of_arc : Result ArcRead Left → ℕ
end_of_arc (Ok a) = a.at
end_of_arc (Err e) = e.at

-- the rest of the text from there on, where the part is there; else the offset
abbrev pub goes_on : Result ℕ Left → Format → (text : List ℕ) → Outcome
goes_on (Ok k) F t = scan F k (drop k t)
goes_on (Err e) F t = stopped e.at

abbrev pub goes_on_with : Result Number Left → (ℕ → Format) → (text : List ℕ) → Outcome
goes_on_with (Ok n) K t = scan (K n.value) n.at (drop n.at t)
goes_on_with (Err e) K t = stopped e.at

abbrev pub goes_on_with_arc : Result ArcRead Left → (Arc → Format) → (text : List ℕ) → Outcome
goes_on_with_arc (Ok a) K t = scan (K (arc_of a.arc)) a.at (drop a.at t)
goes_on_with_arc (Err e) K t = stopped e.at

-- white space leaves the format as it is
abbrev pub Keeps : Format → Type 0
Keeps F = (b : ℕ) → white b ≡ true → step F b ≡ some F

-- no such format is at its end
abbrev pub Firm : (ℕ → Format) → Type 0
Firm K = (v a : ℕ) → finish (K v) a ≡ stopped a

-- a part that a format takes before any other
pub record Part (t : List ℕ) (at : ℕ) (V : Format → Format) (r : Result ℕ Left) : Type 0 where
  pub inside : end_of r ≤ length t
  pub from : at ≤ end_of r
  pub same : (F : Format) → scan (V F) at (drop at t) ≡ goes_on r F t

-- these bytes
abbrev pub Word : (t : List ℕ) (at : ℕ) (word : List ℕ) → Result ℕ Left → Type 0
Word t at word r = Part t at (spell word) r

-- the white space from an offset on ends at r
pub record Skipped (t : List ℕ) (at r : ℕ) : Type 0 where
  pub inside : r ≤ length t
  pub from : at ≤ r
  pub stops : r < length t → white (get_or t r 0) ≡ false
  pub same : (F : Format) → Keeps F → scan F at (drop at t) ≡ scan F r (drop r t)

-- a number from lo to hi
pub record Value (t : List ℕ) (at lo hi : ℕ) (r : Result Number Left) : Type 0 where
  pub inside : end_of_number r ≤ length t
  pub from : at ≤ end_of_number r
  pub most : IfOk r (λ n. n.value ≤ hi)
  pub least : IfOk r (λ n. lo ≤ n.value)
  pub same : (K : ℕ → Format) → Firm K → scan (number lo hi K) at (drop at t) ≡ goes_on_with r K t

-- an offset in the text, after digits that make n, which is at most hi
pub record Reading (t : List ℕ) (at n hi : ℕ) : Type 0 where
  pub inside : at ≤ length t
  pub most : n ≤ hi

-- the rest of a number from lo to hi after these digits
pub record Rest (t : List ℕ) (at n lo hi : ℕ) (r : Result Number Left) : Type 0 where
  pub inside : end_of_number r ≤ length t
  pub from : at ≤ end_of_number r
  pub most : IfOk r (λ n. n.value ≤ hi)
  pub least : IfOk r (λ n. lo ≤ n.value)
  pub same : (K : ℕ → Format) → Firm K → scan (digits n lo hi K) at (drop at t) ≡ goes_on_with r K t

-- the number v that ends at an offset, if it is not below lo
unfoldable pub ended : (v lo at : ℕ) → Result Number Left
ended v lo at = cond (leb lo v) (Ok (record { at = at; value = v })) (Err (record { at = at }))

-- the digit at an offset, where there is one
pub record DigitIs (t : List ℕ) (at d : ℕ) : Type 0 where
  pub most : d < 10
  pub inside : at < length t
  pub read : get_or t at 0 ≡ 48 + d

abbrev pub DigitAt : (t : List ℕ) (at : ℕ) → Option ℕ → Type 0
DigitAt t at (Some d) = DigitIs t at d
DigitAt t at None = at < length t → digit (get_or t at 0) ≡ false

-- ---- the frame

-- where the text has ended, the drawing; else the offset
abbrev pub drawn_or : Result ℕ Left → Drawing → Outcome
drawn_or (Ok k) d = drawn d
drawn_or (Err e) d = stopped e.at

-- white space and the end of the text
pub record Ended (t : List ℕ) (at : ℕ) (r : Result ℕ Left) : Type 0 where
  pub inside : end_of r ≤ length t
  pub from : at ≤ end_of r
  pub same : (d : Drawing) → scan (ends d) at (drop at t) ≡ drawn_or r d

-- all before the first element
pub record Opened (t : List ℕ) (r : Result ℕ Left) : Type 0 where
  pub inside : end_of r ≤ length t
  pub same : scan start 0 t ≡ goes_on r (turn (record { marks = []; actions = []; arcs = [] })) t

-- all after the last one, from `</` on
pub record Closed (t : List ℕ) (at : ℕ) (r : Result ℕ Left) : Type 0 where
  pub inside : end_of r ≤ length t
  pub from : at ≤ end_of r
  pub same : (d : Drawing) → scan (closing d) at (drop at t) ≡ drawn_or r d

-- ---- places and transitions

-- a place from `<p` on, in a drawing with so many places
pub record PlaceRead (t : List ℕ) (at places : ℕ) (r : Result Number Left) : Type 0 where
  pub inside : end_of_number r ≤ length t
  pub from : at ≤ end_of_number r
  pub most : IfOk r (λ n. n.value ≤ 1)
  pub same : (d : Drawing) → length d.marks ≡ places → scan (place_format d) at (drop at t) ≡ goes_on_with r (λ v. turn (add_place d v)) t

-- `<t` is there, as the mark of an optional transition begins
unfoldable pub mark_opens : (text : List ℕ) (at : ℕ) → Bool
mark_opens t at = leb (at + 2) (length t) && (eqb (get_or t at 0) 60 && eqb (get_or t (at + 1) 0) 116)

-- what follows a transition's name and white space: a mark, and the end
unfoldable pub mark_format : (action : ℕ) → (ℕ → Format) → Format
mark_format a K =
    byte 60 (either 116 true (spell (bytes "oolspecific tool=\"desk\" version=\"1\"/>") (space (spell (bytes "</transition>") (K (a + 65536)))))
    (spell (bytes "/transition>") (K a)))

-- the mark is read, where there is one; the value is the action with what the mark adds
pub record MarkRead (t : List ℕ) (at action : ℕ) (r : Result Number Left) : Type 0 where
  pub inside : end_of_number r ≤ length t
  pub from : at ≤ end_of_number r
  pub most : IfOk r (λ n. n.value ≤ 131071)
  pub same : (K : ℕ → Format) → scan (mark_format action K) at (drop at t) ≡ goes_on_with r (λ v. spell (bytes "</transition>") (K v)) t

-- what follows a transition's action
unfoldable pub end_format : (action : ℕ) → (ℕ → Format) → Format
end_format a K = spell (bytes "</text>") (space (spell (bytes "</name>") (space (mark_format a K))))

pub record EndRead (t : List ℕ) (at action : ℕ) (r : Result Number Left) : Type 0 where
  pub inside : end_of_number r ≤ length t
  pub from : at ≤ end_of_number r
  pub most : IfOk r (λ n. n.value ≤ 131071)
  pub same : (K : ℕ → Format) → scan (end_format action K) at (drop at t) ≡ goes_on_with r K t

-- a transition from `<t` on, in a drawing with so many transitions; the value is its entry
pub record TransitionRead (t : List ℕ) (at transitions : ℕ) (r : Result Number Left) : Type 0 where
  pub inside : end_of_number r ≤ length t
  pub from : at ≤ end_of_number r
  pub most : IfOk r (λ n. n.value ≤ 131071)
  pub same : (d : Drawing) → length d.actions ≡ transitions → scan (transition_format d) at (drop at t) ≡ goes_on_with r (λ v. turn (add_transition d v)) t

-- ---- arcs

-- the least arc names a place and a transition
pub record Open (places transitions : ℕ) (least : Arc) : Type 0 where
  pub place : least.place < places
  pub transition : least.transition < transitions

-- the letter of a source, at an offset: whether it is a transition's
pub record Letter (t : List ℕ) (at : ℕ) (pre post : Bool) : Type 0 where
  pub inside : at < length t
  pub same : (F G : Format) → scan (either 112 pre F (byte 116 G)) at (drop at t) ≡ scan (cond post G F) (at + 1) (drop (at + 1) t)

abbrev pub Sourced : (t : List ℕ) (at : ℕ) (pre : Bool) → Result Bool Left → Type 0
Sourced t at pre (Ok post) = Letter t at pre post
Sourced t at pre (Err e) = (e.at ≡ at) × ((F G : Format) → scan (either 112 pre F (byte 116 G)) at (drop at t) ≡ stopped at)

-- the rest of an arc, into a transition and out of one
unfoldable pub pre_format : (places transitions : ℕ) → (least : Arc) → (Arc → Format) → Format
pre_format P T l K =
    number (pre_from T l) (P - 1) (λ p. spell (bytes "\" target=\"t") (number (pre_into l p) (T - 1) (λ t.
    spell (bytes "\"/>") (K (record { transition = t; post = false; place = p })))))

unfoldable pub post_format : (places transitions : ℕ) → (least : Arc) → (Arc → Format) → Format
post_format P T l K =
    number l.transition (T - 1) (λ t. spell (bytes "\" target=\"p") (number (post_into l t) (P - 1) (λ p.
    spell (bytes "\"/>") (K (record { transition = t; post = true; place = p })))))

pub record Ends (t : List ℕ) (at places transitions : ℕ) (F : (Arc → Format) → Format) (r : Result ArcRead Left) : Type 0 where
  pub inside : end_of_arc r ≤ length t
  pub from : at ≤ end_of_arc r
  pub named : IfOk r (λ a. Open places transitions (arc_of a.arc))
  pub same : (K : Arc → Format) → scan (F K) at (drop at t) ≡ goes_on_with_arc r K t

abbrev pub PreRead : (t : List ℕ) (at places transitions : ℕ) (least : Arc) → Result ArcRead Left → Type 0
PreRead t at P T l r = Ends t at P T (pre_format P T l) r

abbrev pub PostRead : (t : List ℕ) (at places transitions : ℕ) (least : Arc) → Result ArcRead Left → Type 0
PostRead t at P T l r = Ends t at P T (post_format P T l) r

-- an arc from `<a` on, in a drawing with so many arcs
pub record ArcAt (t : List ℕ) (at arcs places transitions : ℕ) (least : Arc) (r : Result ArcRead Left) : Type 0 where
  pub inside : end_of_arc r ≤ length t
  pub from : at ≤ end_of_arc r
  pub named : IfOk r (λ a. Open places transitions (arc_of a.arc))
  pub same : (d : Drawing) → length d.arcs ≡ arcs → scan (arc_format d places transitions least) at (drop at t) ≡ goes_on_with_arc r (λ a. turn (add_arc d a)) t
