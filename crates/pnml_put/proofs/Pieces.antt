-- The words and numbers that are put, as the pieces of a drawing's text. Assumes nothing.
use mathlib.Core.Path.{◌≡◌, refl, sym, ap, ap₂, ◌∙◌}
use mathlib.Core.Bool.{Bool, true, false, cond}
use mathlib.Core.List.{List, [], ◌∷◌, ◌++◌, append_assoc}
use Prim.Native.Nat.{ℕ, ◌+◌, ◌-◌, ◌<◌}
use native.Mathlib.Nat.{add-zero}
use native.Mathlib.Omega.{arith}
use native.Mathlib.Numerals.{add-one}
use lib.ListN.{length}
use borrow.Author.Tests.{lt-ltb, le-ltb}
use Rattle.texts.specs.Text.{bytes, decimal}
use Rattle.pnml_shape.specs.Drawing.{Drawing, place_pieces, pressed_pieces, optional_pieces, transition_pieces, arc_piece, openings, closings}
use Rattle.pnml_shape.specs.Drawing.{places, transitions, arcs, pieces, joined, written}
use Rattle.pnml_net.specs.Nets.{countdown, entry_by}
use Rattle.pnml_net.proofs.Marks.{countdown_length}
use Rattle.pnml_put.specs.Put.{arc_of, arc_text, named_text}

-- ---- one place, one transition

regroup : (w n a b m c d : List ℕ) → w ++ (n ++ ((a ++ b) ++ (m ++ (c ++ d)))) ≡ (w ++ (n ++ a)) ++ (b ++ ((m ++ c) ++ d))
regroup w n a b m c d = simp append_assoc

pub place_text : (i m : ℕ)
    → bytes "<place id=\"p" ++ (decimal i ++ (bytes "\"><initialMarking><text>" ++ (decimal m ++ bytes "</text></initialMarking></place>")))
    ≡ joined (place_pieces i m)
unfolding place_pieces joined
place_text i m =
    regroup (bytes "<place id=\"p") (decimal i) (bytes "\">") (bytes "<initialMarking><text>")
    (decimal m) (bytes "</text>") (bytes "</initialMarking></place>")

-- a transition up to its action, and then its end
named_end : (i a : ℕ) (end : List ℕ)
    → named_text i a ++ (bytes "</text>" ++ end)
    ≡ (bytes "<transition id=\"t" ++ (decimal i ++ bytes "\">"))
    ++ (bytes "<name><text>" ++ ((decimal a ++ bytes "</text>") ++ end))
named_end i a end = simp append_assoc

pub pressed_text : (i a : ℕ) → named_text i a ++ bytes "</text></name></transition>" ≡ joined (pressed_pieces i a)
unfolding pressed_pieces joined
pressed_text i a = named_end i a (bytes "</name></transition>")

pub optional_text : (i a : ℕ)
    → named_text i a ++ bytes "</text></name><toolspecific tool=\"desk\" version=\"1\"/></transition>"
    ≡ joined (optional_pieces i a)
unfolding optional_pieces joined
optional_text i a = named_end i a (bytes "</name><toolspecific tool=\"desk\" version=\"1\"/></transition>")

-- by the entry
pub pressed_entry : {b : Bool} (i a : ℕ) → a < 65536 → b ≡ false → joined (pressed_pieces i a) ≡ joined (transition_pieces i (entry_by a b))
unfolding transition_pieces entry_by
pressed_entry {b} i a h e =
    ap (λ (t : Bool). joined (cond t (pressed_pieces i a) (optional_pieces i (a - 65536)))) (sym (lt-ltb a 65536 h))
    ∙ ap (λ (x : ℕ). joined (transition_pieces i x)) (sym (ap (λ (t : Bool). a + cond t 65536 0) e ∙ add-zero a))

pub optional_entry : {b : Bool} (i a : ℕ) → b ≡ true → joined (optional_pieces i a) ≡ joined (transition_pieces i (entry_by a b))
unfolding transition_pieces entry_by
optional_entry {b} i a e =
    let less : (a + 65536) - 65536 ≡ a = omega arith in
    ap (λ (x : ℕ). joined (optional_pieces i x)) (sym less)
    ∙ ap (λ (t : Bool). joined (cond t (pressed_pieces i (a + 65536)) (optional_pieces i ((a + 65536) - 65536))))
    (sym (le-ltb (a + 65536) 65536 (omega arith)))
    ∙ ap (λ (t : Bool). joined (transition_pieces i (a + cond t 65536 0))) (sym e)

-- ---- one arc

around : (a b c d : List ℕ) → a ++ (b ++ (c ++ d)) ≡ (a ++ (b ++ c)) ++ d
around a b c d = simp append_assoc

-- 116 and 112 are the letters t and p
pub post_text : (i t p : ℕ) → arc_text i 116 t 112 p ≡ arc_piece i (arc_of t true p)
unfolding arc_piece
post_text i t p =
    ap (λ (x : List ℕ). bytes "<arc id=\"a" ++ (decimal i ++ (bytes "\" source=\"t" ++ x)))
    (around (decimal t) (bytes "\" target=\"p") (decimal p) (bytes "\"/>"))

pub pre_text : (i t p : ℕ) → arc_text i 112 p 116 t ≡ arc_piece i (arc_of t false p)
unfolding arc_piece
pre_text i t p =
    ap (λ (x : List ℕ). bytes "<arc id=\"a" ++ (decimal i ++ (bytes "\" source=\"p" ++ x)))
    (around (decimal p) (bytes "\" target=\"t") (decimal t) (bytes "\"/>"))

-- ---- many

pub joined_append : (a b : List (List ℕ)) → joined (a ++ b) ≡ joined a ++ joined b
unfolding joined
joined_append [] b = refl
joined_append (p ∷ a) b = ap (λ (x : List ℕ). p ++ x) (joined_append a b) ∙ sym (append_assoc p (joined a) (joined b))

-- one place more
pub places_more : (f : ℕ → ℕ) (n x : ℕ) → x ≡ f n
    → joined (places (countdown f n)) ++ joined (place_pieces n x) ≡ joined (places (countdown f (n + 1)))
unfolding places countdown
places_more f n x e =
    sym
    (ap (λ (k : ℕ). joined (places (countdown f k))) (add-one n)
    ∙ joined_append (places (countdown f n)) (place_pieces (length (countdown f n)) (f n))
    ∙ ap₂ (λ (k y : ℕ). joined (places (countdown f n)) ++ joined (place_pieces k y)) (countdown_length f n) (sym e))

-- one transition more
pub transitions_more : (f : ℕ → ℕ) (n x : ℕ) → x ≡ f n
    → joined (transitions (countdown f n)) ++ joined (transition_pieces n x) ≡ joined (transitions (countdown f (n + 1)))
unfolding transitions countdown
transitions_more f n x e =
    sym
    (ap (λ (k : ℕ). joined (transitions (countdown f k))) (add-one n)
    ∙ joined_append (transitions (countdown f n)) (transition_pieces (length (countdown f n)) (f n))
    ∙ ap₂ (λ (k y : ℕ). joined (transitions (countdown f n)) ++ joined (transition_pieces k y)) (countdown_length f n) (sym e))

-- ---- the whole text

pub opening_text : bytes "<pnml xmlns=\"http://www.pnml.org/version-2009/grammar/pnml\">"
    ++ (bytes "<net id=\"n\" type=\"http://www.pnml.org/version-2009/grammar/ptnet\">" ++ bytes "<page id=\"g\">")
    ≡ joined openings
unfolding openings joined
opening_text = refl

pub whole_text : (d : Drawing)
    → joined openings
    ++ (joined (places d.marks) ++ (joined (transitions d.actions) ++ (joined (arcs d.arcs) ++ bytes "</page></net></pnml>")))
    ≡ written d
unfolding written pieces closings joined
whole_text d =
    sym
    (joined_append openings (places d.marks ++ (transitions d.actions ++ (arcs d.arcs ++ closings)))
    ∙ ap (λ (x : List ℕ). joined openings ++ x)
    (joined_append (places d.marks) (transitions d.actions ++ (arcs d.arcs ++ closings))
    ∙ ap (λ (x : List ℕ). joined (places d.marks) ++ x)
    (joined_append (transitions d.actions) (arcs d.arcs ++ closings)
    ∙ ap (λ (x : List ℕ). joined (transitions d.actions) ++ x) (joined_append (arcs d.arcs) closings))))
