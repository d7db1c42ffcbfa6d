-- From each format that the machine comes to, some text leads to the end. Assumes nothing.
use mathlib.Core.Path.{◌≡◌, refl, sym, ap, ◌∙◌, subst}
use mathlib.Core.Bool.{Bool, true, false, cond, ◌&&◌, ◌||◌, false≢true}
use mathlib.Core.List.{List, [], ◌∷◌, ◌++◌}
use mathlib.Core.Option.{Option, none, some}
use Prim.Native.Nat.{ℕ, zero, suc, ◌+◌, ◌-◌, ◌*◌, ◌≤◌, ◌<◌, zero-le}
use native.Mathlib.Nat.{le_refl}
use native.Mathlib.Omega.{arith}
use lib.ListN.{length}
use lib.Dec.{eqb, ltb, leb}
use borrow.Author.Tests.{eqb-true, leb-true}
use Rattle.tables.proofs.Tests.{and_left, and_right, and_intro, if_true, if_false}
use Rattle.texts.specs.Text.{bytes, decimal}
use Rattle.pnml_shape.specs.Drawing.{Arc, Drawing, closings, written, joined}
use Rattle.pnml_shape.specs.Shape.{white, all_white, Spaced}
use Rattle.pnml_shape.specs.Machine.{Format, ends, byte, space, either, number, digits, turn, spell, add_place, add_transition, add_arc, place_format, transition_format, arc_format, closing, least, arc_open, pre_open, pre_from, pre_into, post_into, opened, start, step, digit, possible, stopped, drawn, finish, or_stop, scan}
use Rattle.pnml_shape.proofs.Scans.{Reads, stopped≢drawn, anywhere, moved, spell_on, spell_drawn, space_off, either_second}
use Rattle.pnml_shape.proofs.Numbers.{number_viable, digits_on}
use Rattle.pnml_shape.proofs.Arcs.{made, pre_range, pre_into_range, post_range, post_into_range}
use Rattle.pnml_shape.proofs.Complete.{closing_rest, after_name, pre_ends, post_ends, ends_format}

-- a format that begins with a byte that passes a test
pub record Begins (ok : ℕ → Bool) (F : Format) : Type 0 where
  pub head : ℕ
  pub next : Format
  pub is : F ≡ byte head next
  pub passes : ok head ≡ true

unfoldable pub solid : ℕ → Bool
solid b = cond (white b) false true

unfoldable pub plain : ℕ → Bool
plain b = cond (digit b) false true

-- the format can be completed, and so can each that follows it
unfoldable pub Open : Format → Type 0
Open (ends d) = Unit
Open (byte c F) = Open F
Open (space F) = Begins solid F × Open F
Open (either c ok F G) = (ok ≡ true → Open F) × Open G × (step G c ≡ none) × ((at : ℕ) → finish G at ≡ stopped at)
Open (number lo hi K) = (lo ≤ hi) × ((n : ℕ) → lo ≤ n → n ≤ hi → Begins plain (K n)) × ((n : ℕ) → lo ≤ n → n ≤ hi → Open (K n))
Open (digits v lo hi K) =
    (lo ≤ hi) × (possible v lo hi ≡ true) × ((n : ℕ) → lo ≤ n → n ≤ hi → Begins plain (K n)) × ((n : ℕ) → lo ≤ n → n ≤ hi → Open (K n))
Open (turn d) = Unit

not-true : (b : Bool) → cond b false true ≡ true → b ≡ false
not-true true e = absurd (false≢true e)
not-true false e = refl

-- ---- an open format can be completed

abbrev Completed : Format → Type 0
Completed F = (s : List ℕ) × (d : Drawing) × Reads F s d

-- what a format that begins with a byte reads begins with that byte
begun : (ok : ℕ → Bool) (F : Format) → Begins ok F → (s : List ℕ) (d : Drawing) → Reads F s d → (b : ℕ) × (r : List ℕ) × (s ≡ b ∷ r) × (ok b ≡ true)
unfolding spell
begun ok F g s d h =
    let (r, e, k) = spell_drawn (g.head ∷ []) g.next s d (subst (λ X. Reads X s d) g.is h) in (g.head, r, e, g.passes)

space_completed : (F : Format) → Begins solid F → Completed F → Completed (space F)
unfolding solid
space_completed F g (s, d, h) =
    let (b, r, e, k) = begun solid F g s d h in
    (b ∷ r, d, space_off b F r d (not-true (white b) k) (subst (λ z. Reads F z d) e h))

-- what the second of two reads does not begin with the first's byte
second_completed : (c : ℕ) (ok : Bool) (F G : Format) → step G c ≡ none → ((at : ℕ) → finish G at ≡ stopped at) → Completed G → Completed (either c ok F G)
unfolding scan
second_completed c ok F G e f ([], d, h) = absurd (stopped≢drawn (sym (f 0) ∙ h 0))
second_completed c ok F G e f (b ∷ s, d, h) = (b ∷ s, d, either_second c ok F G b s d (by (eqb b c) refl) h)
  where
    by : (t : Bool) → eqb b c ≡ t → (t && ok) ≡ false
    by true q =
        let (X, i, j) = moved G b s d h in
        let z : none ≡ some X = sym (subst (λ y. step G y ≡ none) (sym (eqb-true b c q)) e) ∙ i in
        let w : ◌≡◌ {A = ℕ} 0 1 = cc in absurd (omega arith)
    by false q = refl

number_completed : (lo hi : ℕ) (K : ℕ → Format) → lo ≤ hi → Begins plain (K lo) → Completed (K lo) → Completed (number lo hi K)
unfolding plain
number_completed lo hi K l g (s, d, h) =
    let (b, r, e, k) = begun plain (K lo) g s d h in
    let (ds, f) = number_viable lo hi K l in
    (ds ++ (b ∷ r), d, λ at. f at b r (not-true (digit b) k) ∙ subst (λ z. Reads (K lo) z d) e h (at + length ds))

digits_completed : (v lo hi : ℕ) (K : ℕ → Format) → lo ≤ hi → possible v lo hi ≡ true → ((n : ℕ) → lo ≤ n → n ≤ hi → Begins plain (K n))
    → ((n : ℕ) → lo ≤ n → n ≤ hi → Completed (K n)) → Completed (digits v lo hi K)
unfolding plain
digits_completed v lo hi K l p g c =
    let (n, a, z, (ds, f)) = digits_on v lo hi K l p in
    let (s, d, h) = c n a z in
    let (b, r, e, k) = begun plain (K n) (g n a z) s d h in
    (ds ++ (b ∷ r), d, λ at. f at b r (not-true (digit b) k) ∙ subst (λ y. Reads (K n) y d) e h (at + length ds))

ends_done : (d : Drawing) → Reads (ends d) [] d
unfolding scan finish
ends_done d at = refl

byte_done : (c : ℕ) (F : Format) (s : List ℕ) (d : Drawing) → Reads F s d → Reads (byte c F) (c ∷ s) d
unfolding spell
byte_done c F s d h = spell_on (c ∷ []) F s d h

-- the closing tags can always follow
turn_done : (d : Drawing) → Reads (turn d) (joined closings) d
unfolding joined closings Spaced all_white
turn_done d = closing_rest d (joined closings) ([], _, refl, refl, ([], _, refl, refl, ([], [], refl, refl, refl)))

pub completed : (F : Format) → Open F → Completed F
unfolding Open
completed (ends d) o = ([], d, ends_done d)
completed (byte c F) o = let (s, d, h) = completed F o in (c ∷ s, d, byte_done c F s d h)
completed (space F) (g, o) = space_completed F g (completed F o)
completed (either c ok F G) (f, o, e, k) = second_completed c ok F G e k (completed G o)
completed (number lo hi K) (l, g, o) = number_completed lo hi K l (g lo (le_refl lo) l) (completed (K lo) (o lo (le_refl lo) l))
completed (digits v lo hi K) (l, p, g, o) = digits_completed v lo hi K l p g (λ n a b. completed (K n) (o n a b))
completed (turn d) o = (joined closings, d, turn_done d)

-- ---- the machine keeps to open formats

-- a word leads to what follows it
spell_open : (w : List ℕ) (F : Format) → Open F → Open (spell w F)
unfolding spell Open
spell_open [] F o = o
spell_open (b ∷ w) F o = spell_open w F o

spell_begins : (ok : ℕ → Bool) (b : ℕ) (w : List ℕ) (F : Format) → ok b ≡ true → Begins ok (spell (b ∷ w) F)
unfolding spell
spell_begins ok b w F e = record { head = b; next = spell w F; is = refl; passes = e }

-- white space and a word
space_open : (b : ℕ) (w : List ℕ) (F : Format) → solid b ≡ true → Open F → Open (space (spell (b ∷ w) F))
unfolding Open
space_open b w F e o = (spell_begins solid b w F e, spell_open (b ∷ w) F o)

-- a number and a word
number_open : (lo hi : ℕ) (b : ℕ) (w : List ℕ) (G : ℕ → Format) → plain b ≡ true → lo ≤ hi → ((n : ℕ) → lo ≤ n → n ≤ hi → Open (G n))
    → Open (number lo hi (λ n. spell (b ∷ w) (G n)))
unfolding Open
number_open lo hi b w G e l o = (l, λ n p q. spell_begins plain b w (G n) e, λ n p q. spell_open (b ∷ w) (G n) (o n p q))

turn_open : (d : Drawing) → Open (turn d)
unfolding Open
turn_open d = tt

place_open : (x : Drawing) → Open (place_format x)
unfolding place_format solid plain white digit
place_open x =
    spell_open (bytes "lace id=\"p") _ (number_open (length x.marks) (length x.marks) 34 (bytes ">") _ refl (le_refl _) (λ i p q.
    space_open 60 (bytes "initialMarking>") _ refl (space_open 60 (bytes "text>") _ refl (number_open 0 1 60 (bytes "/text>") _ refl zero-le (λ m a b.
    space_open 60 (bytes "/initialMarking>") _ refl (space_open 60 (bytes "/place>") _ refl (turn_open (add_place x m))))))))

-- after a transition's name: its mark, or its end
mark_open : (x : Drawing) (a : ℕ)
    → Open (spell (bytes "oolspecific tool=\"desk\" version=\"1\"/>") (space (spell (bytes "</transition>") (turn (add_transition x a)))))
unfolding solid white
mark_open x a = spell_open (bytes "oolspecific tool=\"desk\" version=\"1\"/>") _ (space_open 60 (bytes "/transition>") _ refl (turn_open (add_transition x a)))

after_name_open : (x : Drawing) (a : ℕ) → Open (after_name x a)
unfolding Open spell step finish
after_name_open x a =
    (λ e. mark_open x (a + 65536), spell_open (bytes "/transition>") (turn (add_transition x a)) (turn_open (add_transition x a)), refl, λ at. refl)

after_name_begins : (x : Drawing) (a : ℕ) → Begins solid (after_name x a)
unfolding solid white
after_name_begins x a = record { head = 60; next = _; is = refl; passes = refl }

space_name_open : (x : Drawing) (a : ℕ) → Open (space (after_name x a))
unfolding Open
space_name_open x a = (after_name_begins x a, after_name_open x a)

transition_open : (x : Drawing) → Open (transition_format x)
unfolding transition_format solid plain white digit
transition_open x =
    spell_open (bytes "ransition id=\"t") _ (number_open (length x.actions) (length x.actions) 34 (bytes ">") _ refl (le_refl _) (λ i p q.
    space_open 60 (bytes "name>") _ refl (space_open 60 (bytes "text>") _ refl (number_open 0 65535 60 (bytes "/text>") _ refl zero-le (λ m a b.
    space_open 60 (bytes "/name>") (space (after_name x m)) refl (space_name_open x m))))))

pre_ends_open : (x : Drawing) (P T : ℕ) (l : Arc) → arc_open P T l ≡ true → pre_open T l ≡ true → Open (pre_ends x P T l)
unfolding plain digit
pre_ends_open x P T l o e =
    number_open (pre_from T l) (P - 1) 34 (bytes " target=\"t") _ refl (pre_range P T l o) (λ p a b.
    number_open (pre_into l p) (T - 1) 34 (bytes "/>") _ refl (pre_into_range P T l p o e a) (λ t c d. turn_open (add_arc x (made t false p))))

post_ends_open : (x : Drawing) (P T : ℕ) (l : Arc) → arc_open P T l ≡ true → Open (post_ends x P T l)
unfolding plain digit
post_ends_open x P T l o =
    number_open l.transition (T - 1) 34 (bytes " target=\"p") _ refl (post_range P T l o) (λ t a b.
    number_open (post_into l t) (P - 1) 34 (bytes "/>") _ refl (post_into_range P T l t o) (λ p c d. turn_open (add_arc x (made t true p))))

ends_open : (x : Drawing) (P T : ℕ) (l : Arc) → arc_open P T l ≡ true → Open (ends_format x P T l)
unfolding Open step finish
ends_open x P T l o = (λ e. pre_ends_open x P T l o e, post_ends_open x P T l o, refl, λ at. refl)

arc_format_open : (x : Drawing) (P T : ℕ) (l : Arc) → arc_open P T l ≡ true → Open (arc_format x P T l)
unfolding arc_format plain digit
arc_format_open x P T l o =
    spell_open (bytes "rc id=\"a") _ (number_open (length x.arcs) (length x.arcs) 34 (bytes " source=\"") (λ i. ends_format x P T l) refl (le_refl _)
    (λ i p q. ends_open x P T l o))

closing_open : (x : Drawing) → Open (closing x)
unfolding closing solid white Open
closing_open x = spell_open (bytes "page>") _ (space_open 60 (bytes "/net>") _ refl (space_open 60 (bytes "/pnml>") (ends x) refl tt))

opened_open : (x : Drawing) → Open (opened x)
unfolding opened Open step finish
opened_open x = (
  λ e. place_open x,
  (λ e. transition_open x, (λ e. arc_format_open x _ _ _ e, closing_open x, refl, λ at. refl), refl, λ at. refl),
  refl,
  λ at. refl,
)

pub start_open : Open start
unfolding start solid white
start_open =
    spell_open (bytes "<pnml xmlns=\"http://www.pnml.org/version-2009/grammar/pnml\">") _
    (space_open 60 (bytes "net id=\"n\" type=\"http://www.pnml.org/version-2009/grammar/ptnet\">") _ refl
    (space_open 60 (bytes "page id=\"g\">") _ refl (turn_open _)))

-- one byte
some_same : (F G : Format) → some F ≡ some G → F ≡ G
some_same F G e = cc

no_step : (G : Format) → none ≡ some G → ⊥
no_step G e = let z : ◌≡◌ {A = ℕ} 0 1 = cc in omega arith

-- what a test chooses: the format F, or another choice
chosen : (t : Bool) (F G : Format) (o : Option Format) → cond t (some F) o ≡ some G → (t ≡ true → Open F) → (o ≡ some G → Open G) → Open G
chosen true F G o e f g = subst (λ X. Open X) (some_same F G e) (f refl)
chosen false F G o e f g = g e

-- after digits: one more, or what follows the number
digits_step : (v lo hi : ℕ) (K : ℕ → Format) (b : ℕ) (G : Format) → lo ≤ hi → ((n : ℕ) → lo ≤ n → n ≤ hi → Begins plain (K n))
    → ((n : ℕ) → lo ≤ n → n ≤ hi → Open (K n)) → ((n : ℕ) → lo ≤ n → n ≤ hi → step (K n) b ≡ some G → Open G) → (t : Bool)
    → cond t (cond (ltb 0 v && possible (10 * v + (b - 48)) lo hi) (some (digits (10 * v + (b - 48)) lo hi K)) none)
    (cond (leb lo v && leb v hi) (step (K v) b) none) ≡ some G
    → Open G
unfolding Open
digits_step v lo hi K b G l g o r true e =
    chosen (ltb 0 v && possible (10 * v + (b - 48)) lo hi) (digits (10 * v + (b - 48)) lo hi K) G none e
    (λ t. (l, and_right (ltb 0 v) (possible (10 * v + (b - 48)) lo hi) t, g, o)) (λ n. absurd (no_step G n))
digits_step v lo hi K b G l g o r false e = on (leb lo v && leb v hi) refl e
  where
    on : (t : Bool) → (leb lo v && leb v hi) ≡ t → cond t (step (K v) b) none ≡ some G → Open G
    on true q i = r v (leb-true lo v (and_left (leb lo v) (leb v hi) q)) (leb-true v hi (and_right (leb lo v) (leb v hi) q)) i
    on false q i = absurd (no_step G i)

pub step_open : (F : Format) → Open F → (b : ℕ) (G : Format) → step F b ≡ some G → Open G
unfolding Open step
step_open (ends d) o b G e = chosen (white b) (ends d) G none e (λ t. tt) (λ n. absurd (no_step G n))
step_open (byte c F) o b G e = chosen (eqb b c) F G none e (λ t. o) (λ n. absurd (no_step G n))
step_open (space F) (g, o) b G e = chosen (white b) (space F) G (step F b) e (λ t. (g, o)) (λ n. step_open F o b G n)
step_open (either c ok F H) (f, o, k, l) b G e =
    chosen (eqb b c && ok) F G (step H b) e (λ t. f (and_right (eqb b c) ok t)) (λ n. step_open H o b G n)
step_open (number lo hi K) (l, g, o) b G e =
    chosen (digit b && possible (b - 48) lo hi) (digits (b - 48) lo hi K) G none e (λ t. (l, and_right (digit b) (possible (b - 48) lo hi) t, g, o))
    (λ n. absurd (no_step G n))
step_open (digits v lo hi K) (l, p, g, o) b G e =
    digits_step v lo hi K b G l g o (λ n q r. step_open (K n) (o n q r) b G) (digit b) e
step_open (turn d) o b G e = chosen (white b) (turn d) G _ e (λ t. tt) (λ n. chosen (eqb b 60) (opened d) G none n (λ t. opened_open d) (λ m. absurd (no_step G m)))
