-- Each text that draws a drawing is read as that drawing. Assumes nothing.
use mathlib.Core.Path.{◌≡◌, refl, sym, ap, ◌∙◌, subst}
use mathlib.Core.Bool.{Bool, true, false, cond, ◌&&◌, ◌||◌}
use mathlib.Core.List.{List, [], ◌∷◌, ◌++◌, append_assoc}
use Prim.Native.Nat.{ℕ, zero, suc, ◌+◌, ◌-◌, ◌*◌, ◌≤◌, ◌<◌, zero-le}
use native.Mathlib.Nat.{le_refl}
use native.Mathlib.Omega.{arith}
use lib.ListN.{length}
use lib.Dec.{eqb, ltb, leb}
use borrow.Author.Tests.{eq-eqb, ltb-true, ltb-false, leb-true}
use Rattle.tables.proofs.Tests.{and_left, and_right, and_intro, if_true, if_false}
use Rattle.texts.specs.Text.{bytes, decimal}
use Rattle.pnml_shape.specs.Drawing.{Arc, Drawing, openings, place_pieces, pressed_pieces, optional_pieces, transition_pieces, arc_piece, closings, places, transitions, arcs, pieces, joined, written, rank, lower, rises, arcs_good, at_most, good}
use Rattle.pnml_shape.specs.Shape.{white, all_white, Spaced, Draws}
use Rattle.pnml_shape.specs.Machine.{Format, ends, byte, space, either, number, turn, spell, add_place, add_transition, add_arc, place_format, transition_format, arc_format, closing, least, arc_open, pre_open, pre_from, pre_into, post_into, opened, start, step, digit, drawn, finish, scan}
use Rattle.pnml_shape.proofs.Scans.{Reads, Absorbs, spell_on, spell_drawn, white_on, space_absorbs, turn_absorbs, ends_absorbs, space_off, turn_on, either_first, either_second}
use Rattle.pnml_shape.proofs.Numbers.{number_on}
use Rattle.pnml_shape.proofs.Arcs.{made, AtLeast, rises_least, least_place, arc-open, pre-open, pre-from, pre-into, post_from, post-into}

-- the format reads every spacing of these pieces as this drawing
abbrev pub Rest : Format → List (List ℕ) → Drawing → Type 0
Rest F ps d = (s : List ℕ) → Spaced ps s → Reads F s d

-- ---- one piece

-- a word, then a format before which white space may stand
pub piece_rest : (p : List ℕ) (ps : List (List ℕ)) (G : Format) (d : Drawing) → Absorbs G → Rest G ps d → Rest (spell p G) (p ∷ ps) d
unfolding Spaced
piece_rest p ps G d a h s (w, r, k, e, q) = subst (λ x. Reads (spell p G) x d) (sym e) (spell_on p G (w ++ r) d (white_on w G r d a k (h r q)))

-- a number between two words
pub number_rest : (u : List ℕ) (lo hi n b : ℕ) (v : List ℕ) (ps : List (List ℕ)) (G : ℕ → Format) (d : Drawing)
    → lo ≤ n → n ≤ hi → digit b ≡ false → Absorbs (G n) → Rest (G n) ps d
    → Rest (spell u (number lo hi (λ i. spell (b ∷ v) (G i)))) ((u ++ (decimal n ++ (b ∷ v))) ∷ ps) d
unfolding Spaced
number_rest u lo hi n b v ps G d p q f a h s (w, r, k, e, g) =
    let rest : Reads (spell (b ∷ v) (G n)) (b ∷ (v ++ (w ++ r))) d = spell_on (b ∷ v) (G n) (w ++ r) d (white_on w (G n) r d a k (h r g)) in
    let read : Reads (number lo hi (λ i. spell (b ∷ v) (G i))) (decimal n ++ (b ∷ (v ++ (w ++ r)))) d =
    λ at. number_on lo hi n (λ i. spell (b ∷ v) (G i)) at b (v ++ (w ++ r)) p q f ∙ rest (at + length (decimal n)) in
    subst
    (λ x. Reads (spell u (number lo hi (λ i. spell (b ∷ v) (G i)))) x d)
    (sym (e ∙ append_assoc u (decimal n ++ (b ∷ v)) (w ++ r) ∙ ap (λ x. u ++ x) (append_assoc (decimal n) (b ∷ v) (w ++ r))))
    (spell_on u (number lo hi (λ i. spell (b ∷ v) (G i))) (decimal n ++ (b ∷ (v ++ (w ++ r)))) d read)

-- white space may stand before a piece
pub space_rest : (b : ℕ) (p : List ℕ) (ps : List (List ℕ)) (F : Format) (d : Drawing) → white b ≡ false → Rest F ((b ∷ p) ∷ ps) d
    → Rest (space F) ((b ∷ p) ∷ ps) d
unfolding Spaced
space_rest b p ps F d f h s (w, r, k, e, q) =
    subst (λ x. Reads (space F) x d) (sym e) (space_off b F (p ++ (w ++ r)) d f (subst (λ x. Reads F x d) e (h s (w, r, k, e, q))))

-- nothing is left
nothing_rest : (x : Drawing) → Rest (ends x) [] x
unfolding Spaced scan finish
nothing_rest x s e at = ap (λ y. scan (ends x) at y) e

-- ---- an element

abbrev pub drawing : (marks actions : List ℕ) → List Arc → Drawing
drawing M A l = record { marks = M; actions = A; arcs = l }

-- four texts in a row
pub apart : (a b c d : List ℕ) → (a ++ (b ++ c)) ++ d ≡ a ++ (b ++ (c ++ d))
apart a b c d = append_assoc a (b ++ c) d ∙ ap (λ x. a ++ x) (append_assoc b c d)

-- the first two bytes of an element lead from a turn to the element's format
element_rest : (x : Drawing) (c : ℕ) (F : Format) (ps : List (List ℕ)) (d : Drawing) → ((s : List ℕ) → Reads F s d → Reads (opened x) (c ∷ s) d)
    → Rest (spell (60 ∷ c ∷ []) F) ps d → Rest (turn x) ps d
element_rest x c F ps d f h s q =
    let (r, e, k) = spell_drawn (60 ∷ c ∷ []) F s d (h s q) in subst (λ y. Reads (turn x) y d) (sym e) (turn_on x (c ∷ r) d (f r k))

-- where there is no transition, a place
opened_place : (x : Drawing) (s : List ℕ) (d : Drawing) → length x.actions ≡ 0 → Reads (place_format x) s d → Reads (opened x) (112 ∷ s) d
unfolding opened
opened_place x s d e h = either_first 112 (eqb (length x.actions) 0) (place_format x) _ s d (eq-eqb (length x.actions) 0 e) h

-- where there is no arc, a transition
opened_transition : (x : Drawing) (s : List ℕ) (d : Drawing) → length x.arcs ≡ 0 → Reads (transition_format x) s d → Reads (opened x) (116 ∷ s) d
unfolding opened
opened_transition x s d e h =
    either_second 112 (eqb (length x.actions) 0) (place_format x) _ 116 s d refl
    (either_first 116 (eqb (length x.arcs) 0) (transition_format x) _ s d (eq-eqb (length x.arcs) 0 e) h)

place_rest : (x : Drawing) (m : ℕ) (ps : List (List ℕ)) (d : Drawing) → length x.actions ≡ 0 → m ≤ 1 → Rest (turn (add_place x m)) ps d
    → Rest (turn x) (place_pieces (length x.marks) m ++ ps) d
unfolding place_pieces place_format spell white digit
place_rest x m ps d e l h =
    element_rest x 112 (place_format x) (place_pieces (length x.marks) m ++ ps) d (λ s. opened_place x s d e)
    (number_rest (bytes "<place id=\"p") (length x.marks) (length x.marks) (length x.marks) 34 (bytes ">") _ _ d (le_refl _) (le_refl _) refl
    (space_absorbs _)
    (space_rest 60 _ _ _ d refl (piece_rest (bytes "<initialMarking>") _ _ d (space_absorbs _)
    (space_rest 60 _ _ _ d refl (number_rest (bytes "<text>") 0 1 m 60 (bytes "/text>") _ _ d zero-le l refl (space_absorbs _)
    (space_rest 60 _ _ _ d refl (piece_rest (bytes "</initialMarking>") _ _ d (space_absorbs _)
    (space_rest 60 _ _ _ d refl (piece_rest (bytes "</place>") ps (turn (add_place x m)) d (turn_absorbs _) h)))))))))

-- after a transition's name: its mark or its end
abbrev pub after_name : Drawing → (action : ℕ) → Format
after_name x a =
    byte 60 (either 116 true (spell (bytes "oolspecific tool=\"desk\" version=\"1\"/>") (space (spell (bytes "</transition>") (turn (add_transition x (a + 65536))))))
    (spell (bytes "/transition>") (turn (add_transition x a))))

-- the pieces of a transition, with those after its name
abbrev pub named_pieces : (number action : ℕ) → List (List ℕ) → List (List ℕ)
named_pieces i a ps =
    (bytes "<transition id=\"t" ++ (decimal i ++ bytes "\">"))
    ∷ bytes "<name>"
    ∷ (bytes "<text>" ++ (decimal a ++ bytes "</text>"))
    ∷ bytes "</name>"
    ∷ ps

named_rest : (x : Drawing) (a : ℕ) (p : List ℕ) (ps : List (List ℕ)) (d : Drawing) → length x.arcs ≡ 0 → a ≤ 65535
    → Rest (after_name x a) ((60 ∷ p) ∷ ps) d → Rest (turn x) (named_pieces (length x.actions) a ((60 ∷ p) ∷ ps)) d
unfolding transition_format spell white digit
named_rest x a p ps d e l h =
    element_rest x 116 (transition_format x) (named_pieces (length x.actions) a ((60 ∷ p) ∷ ps)) d (λ s. opened_transition x s d e)
    (number_rest (bytes "<transition id=\"t") (length x.actions) (length x.actions) (length x.actions) 34 (bytes ">") _ _ d (le_refl _) (le_refl _) refl
    (space_absorbs _)
    (space_rest 60 _ _ _ d refl (piece_rest (bytes "<name>") _ _ d (space_absorbs _)
    (space_rest 60 _ _ _ d refl (number_rest (bytes "<text>") 0 65535 a 60 (bytes "/text>") _ _ d zero-le l refl (space_absorbs _)
    (space_rest 60 _ _ _ d refl (piece_rest (bytes "</name>") _ (space (after_name x a)) d (space_absorbs _)
    (space_rest 60 p ps (after_name x a) d refl h))))))))

-- one of two after `<`
first_read : (c : ℕ) (F G : Format) (s : List ℕ) (d : Drawing) → Reads (spell (60 ∷ c ∷ []) F) s d → Reads (byte 60 (either c true F G)) s d
unfolding spell
first_read c F G s d h =
    let (r, e, k) = spell_drawn (60 ∷ c ∷ []) F s d h in
    subst (λ y. Reads (byte 60 (either c true F G)) y d) (sym e) (spell_on (60 ∷ []) (either c true F G) (c ∷ r) d (either_first c true F G r d refl k))

second_read : (c b : ℕ) (F G : Format) (s : List ℕ) (d : Drawing) → eqb b c ≡ false → Reads (spell (60 ∷ b ∷ []) G) s d → Reads (byte 60 (either c true F (byte b G))) s d
unfolding spell
second_read c b F G s d f h =
    let (r, e, k) = spell_drawn (60 ∷ b ∷ []) G s d h in
    subst (λ y. Reads (byte 60 (either c true F (byte b G))) y d) (sym e)
    (spell_on (60 ∷ []) (either c true F (byte b G)) (b ∷ r) d
    (either_second c true F (byte b G) b r d (ap (λ t. t && true) f) (spell_on (b ∷ []) G r d k)))

pressed_rest : (x : Drawing) (a : ℕ) (ps : List (List ℕ)) (d : Drawing) → length x.arcs ≡ 0 → a ≤ 65535 → Rest (turn (add_transition x a)) ps d
    → Rest (turn x) (pressed_pieces (length x.actions) a ++ ps) d
unfolding pressed_pieces spell
pressed_rest x a ps d e l h =
    named_rest x a (bytes "/transition>") ps d e l (λ s q.
    second_read 116 47 (spell (bytes "oolspecific tool=\"desk\" version=\"1\"/>") (space (spell (bytes "</transition>") (turn (add_transition x (a + 65536))))))
    (spell (bytes "transition>") (turn (add_transition x a))) s d refl
    (piece_rest (bytes "</transition>") ps (turn (add_transition x a)) d (turn_absorbs _) h s q))

optional_rest : (x : Drawing) (a : ℕ) (ps : List (List ℕ)) (d : Drawing) → length x.arcs ≡ 0 → a ≤ 65535 → Rest (turn (add_transition x (a + 65536))) ps d
    → Rest (turn x) (optional_pieces (length x.actions) a ++ ps) d
unfolding optional_pieces spell white
optional_rest x a ps d e l h =
    named_rest x a (bytes "toolspecific tool=\"desk\" version=\"1\"/>") (bytes "</transition>" ∷ ps) d e l (λ s q.
    first_read 116 (spell (bytes "oolspecific tool=\"desk\" version=\"1\"/>") (space (spell (bytes "</transition>") (turn (add_transition x (a + 65536))))))
    (spell (bytes "/transition>") (turn (add_transition x a))) s d
    (piece_rest (bytes "<toolspecific tool=\"desk\" version=\"1\"/>") _ _ d (space_absorbs _)
    (space_rest 60 _ _ _ d refl (piece_rest (bytes "</transition>") ps (turn (add_transition x (a + 65536))) d (turn_absorbs _) h)) s q))

transition_rest : (x : Drawing) (a : ℕ) (ps : List (List ℕ)) (d : Drawing) → length x.arcs ≡ 0 → a ≤ 131071 → Rest (turn (add_transition x a)) ps d
    → Rest (turn x) (transition_pieces (length x.actions) a ++ ps) d
unfolding transition_pieces
transition_rest x a ps d e l h = by (ltb a 65536) refl
  where
    by : (t : Bool) → ltb a 65536 ≡ t → Rest (turn x) (cond t (pressed_pieces (length x.actions) a) (optional_pieces (length x.actions) (a - 65536)) ++ ps) d
    by true q = let b = ltb-true a 65536 q in pressed_rest x a ps d e (omega arith) h
    by false q =
        let b = ltb-false a 65536 q in
        let same : a ≡ (a - 65536) + 65536 = omega arith in
        optional_rest x (a - 65536) ps d e (omega arith) (subst (λ z. Rest (turn (add_transition x z)) ps d) same h)

-- ---- an arc

number_reads : (lo hi n : ℕ) (K : ℕ → Format) (b : ℕ) (s : List ℕ) (d : Drawing) → lo ≤ n → n ≤ hi → digit b ≡ false → Reads (K n) (b ∷ s) d
    → Reads (number lo hi K) (decimal n ++ (b ∷ s)) d
number_reads lo hi n K b s d p q f h at = number_on lo hi n K at b s p q f ∙ h (at + length (decimal n))

-- its ends, after `source="p` and after `source="t`
abbrev pub pre_ends : Drawing → (P T : ℕ) → Arc → Format
pre_ends x P T l =
    number (pre_from T l) (P - 1) (λ p. spell (bytes "\" target=\"t") (number (pre_into l p) (T - 1) (λ t.
    spell (bytes "\"/>") (turn (add_arc x (record { transition = t; post = false; place = p }))))))

abbrev pub post_ends : Drawing → (P T : ℕ) → Arc → Format
post_ends x P T l =
    number l.transition (T - 1) (λ t. spell (bytes "\" target=\"p") (number (post_into l t) (P - 1) (λ p.
    spell (bytes "\"/>") (turn (add_arc x (record { transition = t; post = true; place = p }))))))

pre_read : (x : Drawing) (P T : ℕ) (l : Arc) (t p : ℕ) (s : List ℕ) (d : Drawing) → p < P → t < T → AtLeast l (made t false p)
    → Reads (turn (add_arc x (made t false p))) s d
    → Reads (pre_ends x P T l) (decimal p ++ (bytes "\" target=\"t" ++ (decimal t ++ (bytes "\"/>" ++ s)))) d
unfolding digit
pre_read x P T l t p s d f g k h =
    number_reads (pre_from T l) (P - 1) p _ 34 _ d (pre-from T l t p g k) (omega arith) refl
    (spell_on (bytes "\" target=\"t") _ _ d
    (number_reads (pre_into l p) (T - 1) t _ 34 _ d (pre-into l t p k) (omega arith) refl (spell_on (bytes "\"/>") _ s d h)))

post_read : (x : Drawing) (P T : ℕ) (l : Arc) (t p : ℕ) (s : List ℕ) (d : Drawing) → p < P → t < T → AtLeast l (made t true p)
    → Reads (turn (add_arc x (made t true p))) s d
    → Reads (post_ends x P T l) (decimal t ++ (bytes "\" target=\"p" ++ (decimal p ++ (bytes "\"/>" ++ s)))) d
unfolding digit
post_read x P T l t p s d f g k h =
    number_reads l.transition (T - 1) t _ 34 _ d (post_from l t p k) (omega arith) refl
    (spell_on (bytes "\" target=\"p") _ _ d
    (number_reads (post_into l t) (P - 1) p _ 34 _ d (post-into l t p k) (omega arith) refl (spell_on (bytes "\"/>") _ s d h)))

-- both ends, after `source="`, with the text that follows
abbrev pub ends_text : Arc → List ℕ
ends_text a =
    cond a.post
    (bytes "t" ++ (decimal a.transition ++ (bytes "\" target=\"p" ++ decimal a.place)))
    (bytes "p" ++ (decimal a.place ++ (bytes "\" target=\"t" ++ decimal a.transition)))

abbrev pub ends_format : Drawing → (P T : ℕ) → Arc → Format
ends_format x P T l = either 112 (pre_open T l) (pre_ends x P T l) (byte 116 (post_ends x P T l))

ends_read : (x : Drawing) (P T : ℕ) (l : Arc) (post : Bool) (t p : ℕ) (s : List ℕ) (d : Drawing) → p < P → t < T → AtLeast l (made t post p)
    → Reads (turn (add_arc x (made t post p))) s d → Reads (ends_format x P T l) (ends_text (made t post p) ++ (bytes "\"/>" ++ s)) d
unfolding spell
ends_read x P T l true t p s d f g k h =
    subst (λ y. Reads (ends_format x P T l) (116 ∷ y) d) (sym (apart (decimal t) (bytes "\" target=\"p") (decimal p) (bytes "\"/>" ++ s)))
    (either_second 112 (pre_open T l) (pre_ends x P T l) (byte 116 (post_ends x P T l)) 116 _ d refl (spell_on (bytes "t") (post_ends x P T l) _ d (post_read x P T l t p s d f g k h)))
ends_read x P T l false t p s d f g k h =
    subst (λ y. Reads (ends_format x P T l) (112 ∷ y) d) (sym (apart (decimal p) (bytes "\" target=\"t") (decimal t) (bytes "\"/>" ++ s)))
    (either_first 112 (pre_open T l) (pre_ends x P T l) (byte 116 (post_ends x P T l)) _ d (pre-open T l t p g k) (pre_read x P T l t p s d f g k h))

-- where an arc can follow, an arc
opened_arc : (x : Drawing) (s : List ℕ) (d : Drawing) → arc_open (length x.marks) (length x.actions) (least (length x.marks) x.arcs) ≡ true
    → Reads (arc_format x (length x.marks) (length x.actions) (least (length x.marks) x.arcs)) s d → Reads (opened x) (97 ∷ s) d
unfolding opened
opened_arc x s d e h =
    either_second 112 (eqb (length x.actions) 0) (place_format x) _ 97 s d refl
    (either_second 116 (eqb (length x.arcs) 0) (transition_format x) _ 97 s d refl
    (either_first 97 (arc_open (length x.marks) (length x.actions) (least (length x.marks) x.arcs))
    (arc_format x (length x.marks) (length x.actions) (least (length x.marks) x.arcs)) (byte 47 (closing x)) s d e h))

arc_read : (x : Drawing) (P T : ℕ) (l a : Arc) (s : List ℕ) (d : Drawing) → a.place < P → a.transition < T → AtLeast l a
    → Reads (turn (add_arc x a)) s d
    → Reads (spell (bytes "<a") (arc_format x P T l)) (arc_piece (length x.arcs) a ++ s) d
unfolding arc_format arc_piece spell digit
arc_read x P T l a s d f g k h =
    subst
    (λ y. Reads (spell (bytes "<a") (arc_format x P T l)) (bytes "<arc id=\"a" ++ y) d)
    (sym (apart (decimal (length x.arcs)) (bytes "\" source=\"") (ends_text a ++ bytes "\"/>") s
    ∙ ap (λ y. decimal (length x.arcs) ++ (bytes "\" source=\"" ++ y)) (append_assoc (ends_text a) (bytes "\"/>") s)))
    (spell_on (bytes "<arc id=\"a") _ _ d
    (number_reads (length x.arcs) (length x.arcs) (length x.arcs) _ 34 _ d (le_refl _) (le_refl _) refl
    (spell_on (bytes "\" source=\"") (ends_format x P T l) _ d (ends_read x P T l a.post a.transition a.place s d f g k h))))

arc_rest : (x : Drawing) (a : Arc) (ps : List (List ℕ)) (d : Drawing) → a.place < length x.marks → a.transition < length x.actions
    → rises x.arcs a ≡ true → Rest (turn (add_arc x a)) ps d → Rest (turn x) (arc_piece (length x.arcs) a ∷ ps) d
unfolding Spaced spell
arc_rest x a ps d f g k h s (w, r, o, e, q) =
    let P = length x.marks in
    let T = length x.actions in
    let l = least P x.arcs in
    let n : AtLeast l a = rises_least P x.arcs a f k in
    let z = arc_read x P T l a (w ++ r) d f g n (white_on w (turn (add_arc x a)) r d (turn_absorbs _) o (h r q)) in
    let (y, i, j) = spell_drawn (60 ∷ 97 ∷ []) (arc_format x P T l) (arc_piece (length x.arcs) a ++ (w ++ r)) d z in
    subst (λ v. Reads (turn x) v d) (sym (e ∙ i))
    (turn_on x (97 ∷ y) d (opened_arc x y d (arc-open P T l a (least_place P x.arcs (omega arith)) g n) j))

-- ---- the end

pub closing_rest : (x : Drawing) → Rest (turn x) closings x
unfolding closings closing spell white opened
closing_rest x =
    element_rest x 47 (closing x) closings x
    (λ s h. either_second 112 (eqb (length x.actions) 0) (place_format x) _ 47 s x refl
    (either_second 116 (eqb (length x.arcs) 0) (transition_format x) _ 47 s x refl
    (either_second 97 (arc_open (length x.marks) (length x.actions) (least (length x.marks) x.arcs))
    (arc_format x (length x.marks) (length x.actions) (least (length x.marks) x.arcs)) (byte 47 (closing x)) 47 s x refl
    (spell_on (47 ∷ []) (closing x) s x h))))
    (piece_rest (bytes "</page>") _ _ x (space_absorbs _)
    (space_rest 60 _ _ _ x refl (piece_rest (bytes "</net>") _ _ x (space_absorbs _)
    (space_rest 60 _ _ _ x refl (piece_rest (bytes "</pnml>") [] (ends x) x (ends_absorbs x) (nothing_rest x))))))

-- ---- all elements

arcs_rest : (M A : List ℕ) (l : List Arc) (ps : List (List ℕ)) (d : Drawing) → arcs_good (length M) (length A) l ≡ true
    → Rest (turn (drawing M A l)) ps d → Rest (turn (drawing M A [])) (arcs l ++ ps) d
unfolding arcs arcs_good
arcs_rest M A [] ps d g h = h
arcs_rest M A (a ∷ l) ps d g h =
    let here = and_left (ltb a.place (length M) && ltb a.transition (length A)) (rises l a && arcs_good (length M) (length A) l) g in
    let rest = and_right (ltb a.place (length M) && ltb a.transition (length A)) (rises l a && arcs_good (length M) (length A) l) g in
    subst (λ q. Rest (turn (drawing M A [])) q d) (sym (append_assoc (arcs l) (arc_piece (length l) a ∷ []) ps))
    (arcs_rest M A l (arc_piece (length l) a ∷ ps) d (and_right (rises l a) (arcs_good (length M) (length A) l) rest)
    (arc_rest (drawing M A l) a ps d
    (ltb-true a.place (length M) (and_left (ltb a.place (length M)) (ltb a.transition (length A)) here))
    (ltb-true a.transition (length A) (and_right (ltb a.place (length M)) (ltb a.transition (length A)) here))
    (and_left (rises l a) (arcs_good (length M) (length A) l) rest) h))

transitions_rest : (M l : List ℕ) (ps : List (List ℕ)) (d : Drawing) → at_most 131071 l ≡ true
    → Rest (turn (drawing M l [])) ps d → Rest (turn (drawing M [] [])) (transitions l ++ ps) d
unfolding transitions at_most
transitions_rest M [] ps d g h = h
transitions_rest M (a ∷ l) ps d g h =
    subst (λ q. Rest (turn (drawing M [] [])) q d) (sym (append_assoc (transitions l) (transition_pieces (length l) a) ps))
    (transitions_rest M l (transition_pieces (length l) a ++ ps) d (and_right (leb a 131071) (at_most 131071 l) g)
    (transition_rest (drawing M l []) a ps d refl (leb-true a 131071 (and_left (leb a 131071) (at_most 131071 l) g)) h))

places_rest : (l : List ℕ) (ps : List (List ℕ)) (d : Drawing) → at_most 1 l ≡ true
    → Rest (turn (drawing l [] [])) ps d → Rest (turn (drawing [] [] [])) (places l ++ ps) d
unfolding places at_most
places_rest [] ps d g h = h
places_rest (m ∷ l) ps d g h =
    subst (λ q. Rest (turn (drawing [] [] [])) q d) (sym (append_assoc (places l) (place_pieces (length l) m) ps))
    (places_rest l (place_pieces (length l) m ++ ps) d (and_right (leb m 1) (at_most 1 l) g)
    (place_rest (drawing l [] []) m ps d refl (leb-true m 1 (and_left (leb m 1) (at_most 1 l) g)) h))

-- each text that draws d is read as d
pub complete : (s : List ℕ) (d : Drawing) → Draws s d → Reads start s d
unfolding good pieces openings start spell white
complete s d h =
    let g = h.fine in
    let more = and_right (at_most 1 d.marks) (at_most 131071 d.actions && arcs_good (length d.marks) (length d.actions) d.arcs) g in
    let all : Rest (turn (drawing [] [] [])) (places d.marks ++ (transitions d.actions ++ (arcs d.arcs ++ closings))) d =
    places_rest d.marks _ d (and_left (at_most 1 d.marks) (at_most 131071 d.actions && arcs_good (length d.marks) (length d.actions) d.arcs) g)
    (transitions_rest d.marks d.actions _ d (and_left (at_most 131071 d.actions) (arcs_good (length d.marks) (length d.actions) d.arcs) more)
    (arcs_rest d.marks d.actions d.arcs closings d (and_right (at_most 131071 d.actions) (arcs_good (length d.marks) (length d.actions) d.arcs) more)
    (closing_rest d))) in
    piece_rest (bytes "<pnml xmlns=\"http://www.pnml.org/version-2009/grammar/pnml\">") _ _ d (space_absorbs _)
    (space_rest 60 _ _ _ d refl (piece_rest (bytes "<net id=\"n\" type=\"http://www.pnml.org/version-2009/grammar/ptnet\">") _ _ d (space_absorbs _)
    (space_rest 60 _ _ _ d refl (piece_rest (bytes "<page id=\"g\">") _ (turn (drawing [] [] [])) d (turn_absorbs _) all))))
    s h.spaced
