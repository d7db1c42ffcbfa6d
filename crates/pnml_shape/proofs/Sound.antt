-- What is read as a drawing draws it. Assumes nothing.
use mathlib.Core.Path.{◌≡◌, refl, sym, ap, ◌∙◌, subst}
use mathlib.Core.Bool.{Bool, true, false, cond, ◌&&◌, ◌||◌, false≢true}
use mathlib.Core.List.{List, [], ◌∷◌, ◌++◌, append_assoc, append-nil}
use mathlib.Core.Logic.{◌⊎◌, inl, inr, ⊎_elim}
use Prim.Native.Nat.{ℕ, zero, suc, ◌+◌, ◌-◌, ◌*◌, ◌≤◌, ◌<◌, zero-le}
use native.Mathlib.Nat.{le_refl}
use native.Mathlib.Omega.{arith}
use lib.ListN.{length, length-append}
use lib.Dec.{eqb, ltb, leb}
use borrow.Author.Tests.{eqb-true, lt-ltb, le-ltb, le-leb, ltb-true}
use Rattle.tables.proofs.Tests.{and_left, and_right, and_intro, if_true, if_false}
use Rattle.texts.specs.Text.{bytes, decimal}
use Rattle.pnml_shape.specs.Drawing.{Arc, Drawing, openings, place_pieces, pressed_pieces, optional_pieces, transition_pieces, arc_piece, closings, places, transitions, arcs, pieces, rises, arcs_good, at_most, good}
use Rattle.pnml_shape.specs.Shape.{white, all_white, Spaced, Draws}
use Rattle.pnml_shape.specs.Machine.{Format, ends, byte, space, either, number, turn, spell, add_place, add_transition, add_arc, place_format, transition_format, arc_format, closing, least, arc_open, pre_open, pre_from, pre_into, post_into, opened, start, scan, drawn}
use Rattle.pnml_shape.proofs.Scans.{Reads, anywhere, spell_on, spell_drawn, space_drawn, ends_drawn, turn_drawn, either_drawn}
use Rattle.pnml_shape.proofs.Numbers.{number_drawn}
use Rattle.pnml_shape.proofs.Arcs.{made, AtLeast, least_rises, pre_back, post_back}
use Rattle.pnml_shape.proofs.Complete.{after_name, named_pieces, ends_text, ends_format, pre_ends, post_ends, apart}

-- ---- spacings

white_append : (v w : List ℕ) → all_white v ≡ true → all_white w ≡ true → all_white (v ++ w) ≡ true
unfolding all_white
white_append [] w p q = q
white_append (b ∷ v) w p q =
    and_intro (white b) (all_white (v ++ w)) (and_left (white b) (all_white v) p) (white_append v w (and_right (white b) (all_white v) p) q)

spaced_append : (ps qs : List (List ℕ)) (x y : List ℕ) → Spaced ps x → Spaced qs y → Spaced (ps ++ qs) (x ++ y)
unfolding Spaced
spaced_append [] qs x y e h = subst (λ z. Spaced qs (z ++ y)) (sym e) h
spaced_append (p ∷ ps) qs x y (w, r, k, e, g) h =
    (w, r ++ y, k, ap (λ z. z ++ y) e ∙ apart p w r y, spaced_append ps qs r y g h)

-- white space may follow the last piece
spaced_white : (p : List ℕ) (ps : List (List ℕ)) (x w : List ℕ) → all_white w ≡ true → Spaced (p ∷ ps) x → Spaced (p ∷ ps) (x ++ w)
unfolding Spaced
spaced_white p [] x w h (v, r, k, e, g) = (
  v ++ w,
  [],
  white_append v w k h,
  ap (λ z. z ++ w) (e ∙ ap (λ z. p ++ (v ++ z)) g ∙ ap (λ z. p ++ z) (append-nil v)) ∙ append_assoc p v w ∙ ap (λ z. p ++ z) (sym (append-nil (v ++ w))),
  refl,
)
spaced_white p (q ∷ ps) x w h (v, r, k, e, g) =
    (v, r ++ w, k, ap (λ z. z ++ w) e ∙ apart p v r w, spaced_white q ps r w h g)

-- ---- a text that begins with a spacing of some pieces, and goes on as a format reads it

pub record Taken (ps : List (List ℕ)) (s : List ℕ) (F : Format) (d : Drawing) : Type 0 where
  pub front : List ℕ
  pub rest : List ℕ
  pub text : s ≡ front ++ rest
  pub shorter : length rest < length s
  pub spaced : Spaced ps front
  pub reads : Reads F rest d

-- the last piece
last_taken : (b : ℕ) (p s r : List ℕ) (F : Format) (d : Drawing) → s ≡ (b ∷ p) ++ r → Reads F r d → Taken ((b ∷ p) ∷ []) s F d
unfolding Spaced all_white
last_taken b p s r F d e h =
    record {
      front = b ∷ p;
      rest = r;
      text = e;
      shorter = omega (arith, simp length-append at (ap length e));
      spaced = ([], [], refl, sym (append-nil (b ∷ p)), refl);
      reads = h;
    }

-- a piece and white space before the others
first_taken : (p w s r q : List ℕ) (ps : List (List ℕ)) (F : Format) (d : Drawing) → s ≡ p ++ r → r ≡ w ++ q → all_white w ≡ true → Taken ps q F d
    → Taken (p ∷ ps) s F d
unfolding Spaced
first_taken p w s r q ps F d e f k t =
    record {
      front = p ++ (w ++ t.front);
      rest = t.rest;
      text = e ∙ ap (λ z. p ++ z) (f ∙ ap (λ z. w ++ z) t.text) ∙ sym (apart p w t.front t.rest);
      shorter = let n = simp length-append at (ap length e) in let m = simp length-append at (ap length f) in let l = t.shorter in omega arith;
      spaced = (w, t.front, k, refl, t.spaced);
      reads = t.reads;
    }

-- a number between two words
number_split : (u v : List ℕ) (lo hi : ℕ) (G : ℕ → Format) (s : List ℕ) (d : Drawing) → Reads (spell u (number lo hi (λ n. spell v (G n)))) s d
    → (n : ℕ) × (r : List ℕ) × (lo ≤ n) × (n ≤ hi) × (s ≡ (u ++ (decimal n ++ v)) ++ r) × Reads (G n) r d
number_split u v lo hi G s d h =
    let (r, e, g) = spell_drawn u (number lo hi (λ n. spell v (G n))) s d h in
    let (n, q, a, b, f, k) = number_drawn lo hi (λ n. spell v (G n)) 0 r d (g 0) in
    let (t, i, j) = spell_drawn v (G n) q d (anywhere q (spell v (G n)) _ d k) in
    (n, t, a, b, e ∙ ap (λ z. u ++ z) (f ∙ ap (λ z. decimal n ++ z) i) ∙ sym (apart u (decimal n) v t), j)

-- texts in a row, bracketed anew
regroup : (a b c e q : List ℕ) → a ++ ((b ++ (c ++ e)) ++ q) ≡ ((a ++ (b ++ c)) ++ e) ++ q
regroup a b c e q = simp append_assoc

around : (a b c e q : List ℕ) → (a ++ (b ++ c)) ++ (e ++ q) ≡ (a ++ (b ++ (c ++ e))) ++ q
around a b c e q = simp append_assoc

-- ---- the elements

place_taken : (x : Drawing) (s : List ℕ) (d : Drawing) → Reads (place_format x) s d
    → (m : ℕ) × (m ≤ 1) × Taken (place_pieces (length x.marks) m) (60 ∷ 112 ∷ s) (turn (add_place x m)) d
unfolding place_format place_pieces spell
place_taken x s d h =
    let (n, r1, a, b, e1, g1) = number_split (bytes "<place id=\"p") (bytes "\">") (length x.marks) (length x.marks) _ (60 ∷ 112 ∷ s) d
    (spell_on (bytes "<p") (place_format x) s d h) in
    let (w1, r2, k1, f1, i1) = space_drawn _ r1 d g1 in
    let (r3, e3, g3) = spell_drawn (bytes "<initialMarking>") _ r2 d i1 in
    let (w2, r4, k2, f2, i2) = space_drawn _ r3 d g3 in
    let (m, r5, a5, b5, e5, g5) = number_split (bytes "<text>") (bytes "</text>") 0 1 _ r4 d i2 in
    let (w3, r6, k3, f3, i3) = space_drawn _ r5 d g5 in
    let (r7, e7, g7) = spell_drawn (bytes "</initialMarking>") _ r6 d i3 in
    let (w4, r8, k4, f4, i4) = space_drawn _ r7 d g7 in
    let (r9, e9, g9) = spell_drawn (bytes "</place>") (turn (add_place x m)) r8 d i4 in
    let same : n ≡ length x.marks = omega arith in (
      m,
      b5,
      subst (λ i. Taken (place_pieces i m) (60 ∷ 112 ∷ s) (turn (add_place x m)) d) same
          (first_taken _ w1 _ r1 r2 _ _ d e1 f1 k1
          (first_taken _ w2 _ r3 r4 _ _ d e3 f2 k2
          (first_taken _ w3 _ r5 r6 _ _ d e5 f3 k3
          (first_taken _ w4 _ r7 r8 _ _ d e7 f4 k4
          (last_taken 60 _ _ r9 _ d e9 g9))))),
    )

-- what follows a transition's name: the entry, and the pieces that the transition has left
abbrev Marked : (x : Drawing) (m : ℕ) (s : List ℕ) (d : Drawing) → Type 0
Marked x m s d =
    (a : ℕ) × (ps : List (List ℕ)) × (a ≤ 131071) × ((i : ℕ) → named_pieces i m ps ≡ transition_pieces i a) × Taken ps s (turn (add_transition x a)) d

pressed_marked : (x : Drawing) (m : ℕ) (s : List ℕ) (d : Drawing) → m ≤ 65535 → Reads (spell (bytes "/transition>") (turn (add_transition x m))) s d
    → Marked x m (60 ∷ s) d
unfolding transition_pieces pressed_pieces
pressed_marked x m s d l h =
    let (r, e, g) = spell_drawn (bytes "/transition>") (turn (add_transition x m)) s d h in (
      m,
      bytes "</transition>" ∷ [],
      omega arith,
      λ i. sym (if_true (ltb m 65536) (pressed_pieces i m) (optional_pieces i (m - 65536)) (lt-ltb m 65536 (omega arith))),
      last_taken 60 (bytes "/transition>") (60 ∷ s) r _ d (ap (λ z. 60 ∷ z) e) g,
    )

optional_marked : (x : Drawing) (m : ℕ) (s : List ℕ) (d : Drawing) → m ≤ 65535
    → Reads (spell (bytes "oolspecific tool=\"desk\" version=\"1\"/>") (space (spell (bytes "</transition>") (turn (add_transition x (m + 65536)))))) s d
    → Marked x m (60 ∷ 116 ∷ s) d
unfolding transition_pieces optional_pieces
optional_marked x m s d l h =
    let (r1, e1, g1) = spell_drawn (bytes "oolspecific tool=\"desk\" version=\"1\"/>") _ s d h in
    let (w, r2, k, f, i2) = space_drawn _ r1 d g1 in
    let (r3, e3, g3) = spell_drawn (bytes "</transition>") (turn (add_transition x (m + 65536))) r2 d i2 in
    let same : (m + 65536) - 65536 ≡ m = omega arith in (
      m + 65536,
      bytes "<toolspecific tool=\"desk\" version=\"1\"/>" ∷ bytes "</transition>" ∷ [],
      omega arith,
      λ i. sym (if_false (ltb (m + 65536) 65536) (pressed_pieces i (m + 65536)) (optional_pieces i ((m + 65536) - 65536)) (le-ltb (m + 65536) 65536 (omega arith))
          ∙ ap (λ n. optional_pieces i n) same),
      first_taken _ w (60 ∷ 116 ∷ s) r1 r2 _ _ d (ap (λ z. 60 ∷ 116 ∷ z) e1) f k (last_taken 60 _ r2 r3 _ d e3 g3),
    )

marked : (x : Drawing) (m : ℕ) (s : List ℕ) (d : Drawing) → m ≤ 65535 → Reads (after_name x m) s d → Marked x m s d
unfolding spell
marked x m s d l h =
    let (r, e, g) = spell_drawn (60 ∷ []) _ s d h in
    subst (λ z. Marked x m z d) (sym e)
    (⊎_elim
    (λ f. let (q, i, k) = f.1 in subst (λ z. Marked x m (60 ∷ z) d) (sym i) (optional_marked x m q d l k))
    (λ f. pressed_marked x m r d l f)
    (either_drawn 116 true _ (spell (bytes "/transition>") (turn (add_transition x m))) r d g))

transition_taken : (x : Drawing) (s : List ℕ) (d : Drawing) → Reads (transition_format x) s d
    → (a : ℕ) × (a ≤ 131071) × Taken (transition_pieces (length x.actions) a) (60 ∷ 116 ∷ s) (turn (add_transition x a)) d
unfolding transition_format spell
transition_taken x s d h =
    let (n, r1, a, b, e1, g1) = number_split (bytes "<transition id=\"t") (bytes "\">") (length x.actions) (length x.actions) _ (60 ∷ 116 ∷ s) d
    (spell_on (bytes "<t") (transition_format x) s d h) in
    let (w1, r2, k1, f1, i1) = space_drawn _ r1 d g1 in
    let (r3, e3, g3) = spell_drawn (bytes "<name>") _ r2 d i1 in
    let (w2, r4, k2, f2, i2) = space_drawn _ r3 d g3 in
    let (m, r5, a5, b5, e5, g5) = number_split (bytes "<text>") (bytes "</text>") 0 65535 _ r4 d i2 in
    let (w3, r6, k3, f3, i3) = space_drawn _ r5 d g5 in
    let (r7, e7, g7) = spell_drawn (bytes "</name>") (space (after_name x m)) r6 d i3 in
    let (w4, r8, k4, f4, i4) = space_drawn (after_name x m) r7 d g7 in
    let (v, ps, b9, same, t) = marked x m r8 d b5 i4 in
    let here : n ≡ length x.actions = omega arith in (
      v,
      b9,
      subst (λ qs. Taken qs (60 ∷ 116 ∷ s) (turn (add_transition x v)) d) (ap (λ i. named_pieces i m ps) here ∙ same (length x.actions))
          (first_taken _ w1 _ r1 r2 _ _ d e1 f1 k1
          (first_taken _ w2 _ r3 r4 _ _ d e3 f2 k2
          (first_taken _ w3 _ r5 r6 _ _ d e5 f3 k3
          (first_taken _ w4 _ r7 r8 _ _ d e7 f4 k4 t)))),
    )

-- the ends of an arc: the arc, and what follows it
abbrev Ended : (x : Drawing) (P T : ℕ) (l : Arc) (s : List ℕ) (d : Drawing) → Type 0
Ended x P T l s d =
    (a : Arc) × (r : List ℕ) × (a.place ≤ P - 1) × (a.transition ≤ T - 1) × AtLeast l a × (s ≡ (ends_text a ++ bytes "\"/>") ++ r) × Reads (turn (add_arc x a)) r d

pre_ended : (x : Drawing) (P T : ℕ) (l : Arc) (s : List ℕ) (d : Drawing) → Reads (pre_ends x P T l) s d → Ended x P T l (112 ∷ s) d
pre_ended x P T l s d h =
    let (p, r, a, b, e, g) = number_drawn (pre_from T l) (P - 1) _ 0 s d (h 0) in
    let (t, q, a2, b2, e2, g2) = number_split (bytes "\" target=\"t") (bytes "\"/>") (pre_into l p) (T - 1)
    (λ t. turn (add_arc x (made t false p))) r d (anywhere r _ _ d g) in (
      made t false p,
      q,
      b,
      b2,
      pre_back l t p a2,
      ap (λ z. 112 ∷ z) (e ∙ ap (λ z. decimal p ++ z) e2 ∙ regroup (decimal p) (bytes "\" target=\"t") (decimal t) (bytes "\"/>") q),
      g2,
    )

post_ended : (x : Drawing) (P T : ℕ) (l : Arc) (s : List ℕ) (d : Drawing) → Reads (post_ends x P T l) s d → Ended x P T l (116 ∷ s) d
post_ended x P T l s d h =
    let (t, r, a, b, e, g) = number_drawn l.transition (T - 1) _ 0 s d (h 0) in
    let (p, q, a2, b2, e2, g2) = number_split (bytes "\" target=\"p") (bytes "\"/>") (post_into l t) (P - 1)
    (λ p. turn (add_arc x (made t true p))) r d (anywhere r _ _ d g) in (
      made t true p,
      q,
      b2,
      b,
      post_back l t p a a2,
      ap (λ z. 116 ∷ z) (e ∙ ap (λ z. decimal t ++ z) e2 ∙ regroup (decimal t) (bytes "\" target=\"p") (decimal p) (bytes "\"/>") q),
      g2,
    )

ended : (x : Drawing) (P T : ℕ) (l : Arc) (s : List ℕ) (d : Drawing) → Reads (ends_format x P T l) s d → Ended x P T l s d
unfolding spell
ended x P T l s d h =
    ⊎_elim
    (λ f. let (r, e, g) = f.1 in subst (λ z. Ended x P T l z d) (sym e) (pre_ended x P T l r d g))
    (λ f. let (r, e, g) = spell_drawn (bytes "t") (post_ends x P T l) s d f in subst (λ z. Ended x P T l z d) (sym e) (post_ended x P T l r d g))
    (either_drawn 112 (pre_open T l) (pre_ends x P T l) (byte 116 (post_ends x P T l)) s d h)

arc_taken : (x : Drawing) (P T : ℕ) (l : Arc) (s : List ℕ) (d : Drawing) → arc_open P T l ≡ true → Reads (arc_format x P T l) s d
    → (a : Arc) × (a.place < P) × (a.transition < T) × AtLeast l a × Taken (arc_piece (length x.arcs) a ∷ []) (60 ∷ 97 ∷ s) (turn (add_arc x a)) d
unfolding arc_format arc_piece arc_open spell
arc_taken x P T l s d o h =
    let p = ltb-true l.place P (and_left (ltb l.place P) (ltb l.transition T) o) in
    let t = ltb-true l.transition T (and_right (ltb l.place P) (ltb l.transition T) o) in
    let (n, r, a, b, e, g) = number_split (bytes "<arc id=\"a") (bytes "\" source=\"") (length x.arcs) (length x.arcs) (λ i. ends_format x P T l) (60 ∷ 97 ∷ s) d
    (spell_on (bytes "<a") (arc_format x P T l) s d h) in
    let (c, q, b1, b2, k, e2, g2) = ended x P T l r d g in
    let same : n ≡ length x.arcs = omega arith in (
      c,
      omega arith,
      omega arith,
      k,
      subst (λ i. Taken (arc_piece i c ∷ []) (60 ∷ 97 ∷ s) (turn (add_arc x c)) d) same
          (last_taken 60 _ _ q _ d
          (e ∙ ap (λ z. (bytes "<arc id=\"a" ++ (decimal n ++ bytes "\" source=\"")) ++ z) e2
          ∙ around (bytes "<arc id=\"a") (decimal n) (bytes "\" source=\"") (ends_text c ++ bytes "\"/>") q) g2),
    )

closing_drawn : (x : Drawing) (s : List ℕ) (d : Drawing) → Reads (closing x) s d → (x ≡ d) × Spaced closings (60 ∷ 47 ∷ s)
unfolding closing closings spell Spaced
closing_drawn x s d h =
    let (r1, e1, g1) = spell_drawn (bytes "page>") _ s d h in
    let (w1, r2, k1, f1, i1) = space_drawn _ r1 d g1 in
    let (r3, e3, g3) = spell_drawn (bytes "</net>") _ r2 d i1 in
    let (w2, r4, k2, f2, i2) = space_drawn _ r3 d g3 in
    let (r5, e5, g5) = spell_drawn (bytes "</pnml>") (ends x) r4 d i2 in
    let (k3, same) = ends_drawn x r5 d g5 in (
      same,
      (
        w1,
        r2,
        k1,
        ap (λ z. 60 ∷ 47 ∷ z) (e1 ∙ ap (λ z. bytes "page>" ++ z) f1),
        (
          w2,
          r4,
          k2,
          e3 ∙ ap (λ z. bytes "</net>" ++ z) f2,
          (r5, [], k3, e5 ∙ ap (λ z. bytes "</pnml>" ++ z) (sym (append-nil r5)), refl),
        ),
      ),
    )

-- ---- the drawing so far

-- its pieces, but for the closing ones
abbrev body : Drawing → List (List ℕ)
body x = openings ++ (places x.marks ++ (transitions x.actions ++ arcs x.arcs))

whole_body : (x : Drawing) → pieces x ≡ body x ++ closings
unfolding pieces
whole_body x = simp append_assoc

body_place : (x : Drawing) (m : ℕ) → x.actions ≡ [] → x.arcs ≡ [] → body (add_place x m) ≡ body x ++ place_pieces (length x.marks) m
unfolding places transitions arcs
body_place x m e f = rw (e, f) (simp (append_assoc, append-nil))

body_transition : (x : Drawing) (a : ℕ) → x.arcs ≡ [] → body (add_transition x a) ≡ body x ++ transition_pieces (length x.actions) a
unfolding transitions arcs
body_transition x a f = rw f (simp (append_assoc, append-nil))

body_arc : (x : Drawing) (a : Arc) → body (add_arc x a) ≡ body x ++ (arc_piece (length x.arcs) a ∷ [])
unfolding arcs
body_arc x a = simp append_assoc

body_white : (x : Drawing) (q w : List ℕ) → all_white w ≡ true → Spaced (body x) q → Spaced (body x) (q ++ w)
unfolding openings
body_white x q w k h = spaced_white _ _ q w k h

-- ---- it stays good

no_length : {A : Type 0} (l : List A) → length l ≡ 0 → l ≡ []
no_length [] e = refl
no_length (x ∷ l) e = absurd (omega arith)

-- with no transition there is no arc
no_arcs : (P : ℕ) (l : List Arc) → arcs_good P 0 l ≡ true → l ≡ []
unfolding arcs_good
no_arcs P [] h = refl
no_arcs P (a ∷ l) h =
    let k = ltb-true a.transition 0 (and_right (ltb a.place P) (ltb a.transition 0)
    (and_left (ltb a.place P && ltb a.transition 0) (rises l a && arcs_good P 0 l) h)) in absurd (omega arith)

good_arcs : (x : Drawing) → good x ≡ true → arcs_good (length x.marks) (length x.actions) x.arcs ≡ true
unfolding good
good_arcs x h =
    and_right (at_most 131071 x.actions) (arcs_good (length x.marks) (length x.actions) x.arcs)
    (and_right (at_most 1 x.marks) (at_most 131071 x.actions && arcs_good (length x.marks) (length x.actions) x.arcs) h)

good_actions : (x : Drawing) → good x ≡ true → at_most 131071 x.actions ≡ true
unfolding good
good_actions x h =
    and_left (at_most 131071 x.actions) (arcs_good (length x.marks) (length x.actions) x.arcs)
    (and_right (at_most 1 x.marks) (at_most 131071 x.actions && arcs_good (length x.marks) (length x.actions) x.arcs) h)

good_marks : (x : Drawing) → good x ≡ true → at_most 1 x.marks ≡ true
unfolding good
good_marks x h = and_left (at_most 1 x.marks) (at_most 131071 x.actions && arcs_good (length x.marks) (length x.actions) x.arcs) h

good_made : (x : Drawing) → at_most 1 x.marks ≡ true → at_most 131071 x.actions ≡ true
    → arcs_good (length x.marks) (length x.actions) x.arcs ≡ true → good x ≡ true
unfolding good
good_made x p q r = and_intro (at_most 1 x.marks) _ p (and_intro (at_most 131071 x.actions) _ q r)

good_place : (x : Drawing) (m : ℕ) → good x ≡ true → m ≤ 1 → x.arcs ≡ [] → good (add_place x m) ≡ true
unfolding at_most arcs_good
good_place x m h k e =
    good_made (add_place x m) (and_intro (leb m 1) (at_most 1 x.marks) (le-leb m 1 k) (good_marks x h)) (good_actions x h) (rw e refl)

good_transition : (x : Drawing) (a : ℕ) → good x ≡ true → a ≤ 131071 → x.arcs ≡ [] → good (add_transition x a) ≡ true
unfolding at_most arcs_good
good_transition x a h k e =
    good_made (add_transition x a) (good_marks x h) (and_intro (leb a 131071) (at_most 131071 x.actions) (le-leb a 131071 k) (good_actions x h)) (rw e refl)

good_arc : (x : Drawing) (a : Arc) → good x ≡ true → a.place < length x.marks → a.transition < length x.actions → rises x.arcs a ≡ true
    → good (add_arc x a) ≡ true
unfolding arcs_good
good_arc x a h p t r =
    good_made (add_arc x a) (good_marks x h) (good_actions x h)
    (and_intro (ltb a.place (length x.marks) && ltb a.transition (length x.actions))
    (rises x.arcs a && arcs_good (length x.marks) (length x.actions) x.arcs)
    (and_intro (ltb a.place (length x.marks)) (ltb a.transition (length x.actions)) (lt-ltb _ _ p) (lt-ltb _ _ t))
    (and_intro (rises x.arcs a) (arcs_good (length x.marks) (length x.actions) x.arcs) r (good_arcs x h)))

-- ---- what is read from a turn on

-- an element more: the text so far, white space, the element, and the rest
step_on : (x y : Drawing) (ps : List (List ℕ)) (q w s : List ℕ) (d : Drawing) → body y ≡ body x ++ ps → all_white w ≡ true → Spaced (body x) q
    → (t : Taken ps s (turn y) d) → (Spaced (body y) ((q ++ w) ++ t.front) → Draws (((q ++ w) ++ t.front) ++ t.rest) d) → Draws (q ++ (w ++ s)) d
step_on x y ps q w s d e k h t f =
    subst (λ z. Draws z d)
    (append_assoc (q ++ w) t.front t.rest ∙ ap (λ z. (q ++ w) ++ z) (sym t.text) ∙ append_assoc q w s)
    (f (subst (λ b. Spaced b ((q ++ w) ++ t.front)) (sym e) (spaced_append (body x) ps (q ++ w) t.front (body_white x q w k h) t.spaced)))

abbrev Sound : ℕ → Type 0
Sound n = (x : Drawing) (q s : List ℕ) (d : Drawing) → length s ≤ n → good x ≡ true → Spaced (body x) q → Reads (turn x) s d → Draws (q ++ s) d

-- by what follows `<`
opened_sound : (n : ℕ) → Sound n → (x : Drawing) (q w r : List ℕ) (d : Drawing) → length r ≤ n → good x ≡ true → all_white w ≡ true → Spaced (body x) q
    → Reads (opened x) r d → Draws (q ++ (w ++ (60 ∷ r))) d
unfolding opened spell
opened_sound n rest x q w r d l g k h o =
    ⊎_elim
    (λ f. let (s, e, i) = f.1 in
    let none : x.actions ≡ [] = no_length x.actions (eqb-true (length x.actions) 0 f.0) in
    let bare : x.arcs ≡ [] = no_arcs (length x.marks) x.arcs (subst (λ z. arcs_good (length x.marks) z x.arcs ≡ true) (eqb-true (length x.actions) 0 f.0) (good_arcs x g)) in
    let (m, b, t) = place_taken x s d i in
    subst (λ z. Draws (q ++ (w ++ (60 ∷ z))) d) (sym e)
    (step_on x (add_place x m) (place_pieces (length x.marks) m) q w (60 ∷ 112 ∷ s) d (body_place x m none bare) k h t
    (λ y. rest (add_place x m) _ t.rest d (let u = t.shorter in let v = ap length e in omega arith) (good_place x m g b bare) y t.reads)))
    (λ f. ⊎_elim
    (λ f. let (s, e, i) = f.1 in
    let bare : x.arcs ≡ [] = no_length x.arcs (eqb-true (length x.arcs) 0 f.0) in
    let (a, b, t) = transition_taken x s d i in
    subst (λ z. Draws (q ++ (w ++ (60 ∷ z))) d) (sym e)
    (step_on x (add_transition x a) (transition_pieces (length x.actions) a) q w (60 ∷ 116 ∷ s) d (body_transition x a bare) k h t
    (λ y. rest (add_transition x a) _ t.rest d (let u = t.shorter in let v = ap length e in omega arith) (good_transition x a g b bare) y t.reads)))
    (λ f. ⊎_elim
    (λ f. let (s, e, i) = f.1 in
    let (a, p, u, c, t) = arc_taken x _ _ _ s d f.0 i in
    subst (λ z. Draws (q ++ (w ++ (60 ∷ z))) d) (sym e)
    (step_on x (add_arc x a) (arc_piece (length x.arcs) a ∷ []) q w (60 ∷ 97 ∷ s) d (body_arc x a) k h t
    (λ y. rest (add_arc x a) _ t.rest d (let u = t.shorter in let v = ap length e in omega arith)
    (good_arc x a g p u (least_rises (length x.marks) x.arcs a c)) y t.reads)))
    (λ f. let (s, e, i) = spell_drawn (47 ∷ []) (closing x) r d f in
    let (same, c) = closing_drawn x s d i in
    subst (λ z. Draws (q ++ (w ++ (60 ∷ r))) z) same
    (record {
      fine = g;
      spaced = subst (λ b. Spaced b (q ++ (w ++ (60 ∷ r)))) (sym (whole_body x))
          (subst (λ z. Spaced (body x ++ closings) z) (append_assoc q w (60 ∷ r))
          (spaced_append (body x) closings (q ++ w) (60 ∷ r) (body_white x q w k h) (subst (λ z. Spaced closings (60 ∷ z)) (sym e) c)));
    }))
    (either_drawn 97 _ _ _ r d f))
    (either_drawn 116 _ _ _ r d f))
    (either_drawn 112 _ _ _ r d o)

turn_sound : (n : ℕ) → Sound n
turn_sound zero x q s d l g h o =
    let (w, r, k, e, i) = turn_drawn x s d o in let u = simp length-append at (ap length e) in absurd (omega arith)
turn_sound (suc n) x q s d l g h o =
    let (w, r, k, e, i) = turn_drawn x s d o in
    let u = simp length-append at (ap length e) in
    subst (λ z. Draws (q ++ z) d) (sym e) (opened_sound n (turn_sound n) x q w r d (omega arith) g k h i)

-- nothing is drawn yet
abbrev empty : Drawing
empty = record { marks = []; actions = []; arcs = [] }

-- what is read as d draws d
pub sound : (s : List ℕ) (d : Drawing) → Reads start s d → Draws s d
unfolding start spell good at_most arcs_good openings places transitions arcs
sound s d h =
    let (r1, e1, g1) = spell_drawn (bytes "<pnml xmlns=\"http://www.pnml.org/version-2009/grammar/pnml\">") _ s d h in
    let (w1, r2, k1, f1, i1) = space_drawn _ r1 d g1 in
    let (r3, e3, g3) = spell_drawn (bytes "<net id=\"n\" type=\"http://www.pnml.org/version-2009/grammar/ptnet\">") _ r2 d i1 in
    let (w2, r4, k2, f2, i2) = space_drawn _ r3 d g3 in
    let (r5, e5, g5) = spell_drawn (bytes "<page id=\"g\">") (turn empty) r4 d i2 in
    let t : Taken openings s (turn empty) d = first_taken _ w1 s r1 r2 _ _ d e1 f1 k1 (first_taken _ w2 r2 r3 r4 _ _ d e3 f2 k2 (last_taken 60 _ r4 r5 _ d e5 g5)) in
    subst (λ z. Draws z d) (sym t.text) (turn_sound (length t.rest) empty t.front t.rest d (le_refl _) refl t.spaced t.reads)
