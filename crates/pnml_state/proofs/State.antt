-- One element more in what the code has of a drawing. Assumes nothing.
use mathlib.Core.Path.{◌≡◌, refl, sym, ap, ap₂, ◌∙◌, subst}
use mathlib.Core.Bool.{Bool, true, false, cond, not, ◌&&◌}
use mathlib.Core.List.{List, [], ◌∷◌}
use mathlib.Core.Logic.{◌⊎◌, inl, inr, ⊎_elim}
use Prim.Native.Nat.{ℕ, zero, suc, ◌+◌, ◌≤◌, ◌<◌, zero-le}
use native.Mathlib.Omega.{arith}
use lib.ListN.{length, get_or, set, length-set}
use lib.Seq.{get_or-set_same, get_or-set_other}
use lib.Dec.{ltb, eqb}
use borrow.Author.Tests.{lt-ltb, ltb-true, ltb-false, eqb-true, eqb-false, eq-eqb, ne_eqb}
use Rattle.tables.proofs.Tests.{and_left, and_right, and_intro, if_true, if_false, passed}
use Rattle.bitset.specs.Sets.{add}
use Rattle.pnml_shape.specs.Drawing.{Arc, Drawing}
use Rattle.pnml_shape.specs.Machine.{add_place, add_transition, add_arc}
use Rattle.pnml_net.specs.Nets.{numbered, marking_of, joins, set_of}
use Rattle.pnml_net.proofs.Lists.{numbered_before, numbered_last}
use Rattle.pnml_state.specs.Serving.{Holds, marked, noted, joined_to}

below : (x y : ℕ) → x < suc y → (x ≡ y → ⊥) → x < y
below x y p n = ⊎_elim (λ e. ltb-true x y e) (λ e. let q = ltb-false x y e in absurd (n (omega arith))) (passed (ltb x y))

none : (b : Bool) {c : Bool} → c ≡ false → (b && c) ≡ false
none true e = e
none false e = refl

add_none : (s k : ℕ) → add s k false ≡ s
unfolding add
add_none s k = refl

-- ---- a place

pub holds_place : (d : Drawing) (m P v : ℕ) (pre post action : List ℕ) → P ≡ length d.marks → Holds d m pre post action
    → Holds (add_place d v) (marked m P v) pre post action
unfolding marked marking_of
holds_place d m P v pre post action e h =
    record {
      pre_size = h.pre_size;
      post_size = h.post_size;
      action_size = h.action_size;
      marks = λ l. if_true (ltb P 64) (add m P (eqb v 1)) m (lt-ltb P 64 (omega arith)) ∙ ap₂ (λ x y. add x y (eqb v 1)) (h.marks (omega arith)) e;
      pres = λ l. h.pres (omega arith);
      posts = λ l. h.posts (omega arith);
      actions = h.actions;
    }

-- ---- a transition

noted_own : (l : List ℕ) (t v : ℕ) → t < 64 → t < length l → get_or (noted l t v) t 0 ≡ v
unfolding noted
noted_own l t v h k = ap (λ (x : List ℕ). get_or x t 0) (if_true (ltb t 64) (set l t v) l (lt-ltb t 64 h)) ∙ get_or-set_same l t v 0 k

noted_other : (l : List ℕ) (t v u : ℕ) → (u ≡ t → ⊥) → get_or (noted l t v) u 0 ≡ get_or l u 0
unfolding noted
noted_other l t v u n = by (ltb t 64)
  where
    by : (b : Bool) → get_or (cond b (set l t v) l) u 0 ≡ get_or l u 0
    by true = get_or-set_other l t u v 0 n
    by false = refl

noted_size : (l : List ℕ) (t v : ℕ) → length (noted l t v) ≡ length l
unfolding noted
noted_size l t v = by (ltb t 64)
  where
    by : (b : Bool) → length (cond b (set l t v) l) ≡ length l
    by true = length-set l t v
    by false = refl

pub holds_transition : (d : Drawing) (m T a : ℕ) (pre post action : List ℕ) → T ≡ length d.actions → Holds d m pre post action
    → Holds (add_transition d a) m pre post (noted action T a)
holds_transition d m T a pre post action e h =
    record {
      pre_size = h.pre_size;
      post_size = h.post_size;
      action_size = noted_size action T a ∙ h.action_size;
      marks = h.marks;
      pres = h.pres;
      posts = h.posts;
      actions = λ t l k. by t l k (passed (eqb t T));
    }
  where
    by : (t : ℕ) → t < 64 → t < suc (length d.actions) → (eqb t T ≡ true) ⊎ (eqb t T ≡ false) → get_or (noted action T a) t 0 ≡ numbered (a ∷ d.actions) t
    by t l k (inl q) =
        let same = eqb-true t T q in
        ap (λ (x : ℕ). get_or (noted action T a) x 0) same ∙ noted_own action T a (omega arith) (omega (arith, h.action_size)) ∙ sym (numbered_last a d.actions)
        ∙ ap (λ (x : ℕ). numbered (a ∷ d.actions) x) (sym (same ∙ e))
    by t l k (inr q) =
        let other = eqb-false t T q in
        let low : t < length d.actions = below t (length d.actions) k (λ z. other (z ∙ sym e)) in
        noted_other action T a t other ∙ h.actions t l low ∙ sym (numbered_before a d.actions t low)

-- ---- an arc

joined_own : (l : List ℕ) (t p : ℕ) → t < 64 → p < 64 → t < length l → get_or (joined_to l true t p) t 0 ≡ add (get_or l t 0) p true
unfolding joined_to
joined_own l t p h k n =
    ap (λ (x : List ℕ). get_or x t 0)
    (if_true (ltb t 64 && ltb p 64) (set l t (add (get_or l t 0) p true)) l (and_intro (ltb t 64) (ltb p 64) (lt-ltb t 64 h) (lt-ltb p 64 k)))
    ∙ get_or-set_same l t (add (get_or l t 0) p true) 0 n

joined_none : (l : List ℕ) (t p u : ℕ) → get_or (joined_to l false t p) u 0 ≡ get_or l u 0
unfolding joined_to
joined_none l t p u = refl

joined_other : (l : List ℕ) (own : Bool) (t p u : ℕ) → (u ≡ t → ⊥) → get_or (joined_to l own t p) u 0 ≡ get_or l u 0
unfolding joined_to
joined_other l own t p u n = by (own && (ltb t 64 && ltb p 64))
  where
    by : (b : Bool) → get_or (cond b (set l t (add (get_or l t 0) p true)) l) u 0 ≡ get_or l u 0
    by true = get_or-set_other l t u (add (get_or l t 0) p true) 0 n
    by false = refl

joined_size : (l : List ℕ) (own : Bool) (t p : ℕ) → length (joined_to l own t p) ≡ length l
unfolding joined_to
joined_size l own t p = by (own && (ltb t 64 && ltb p 64))
  where
    by : (b : Bool) → length (cond b (set l t (add (get_or l t 0) p true)) l) ≡ length l
    by true = length-set l t (add (get_or l t 0) p true)
    by false = refl

-- a table of sets of one kind, with an arc more
joined_sets : (l : List ℕ) (arcs : List Arc) (a : Arc) (own kind : Bool) → own ≡ cond kind a.post (not a.post) → length l ≡ 64 → a.place < 64
    → ((t : ℕ) → t < 64 → get_or l t 0 ≡ set_of arcs t kind) → (t : ℕ) → t < 64 → get_or (joined_to l own a.transition a.place) t 0 ≡ set_of (a ∷ arcs) t kind
unfolding set_of joins
joined_sets l arcs a own kind e len p h t k = by own e (passed (eqb a.transition t))
  where
    by : (o : Bool) → o ≡ cond kind a.post (not a.post) → (eqb a.transition t ≡ true) ⊎ (eqb a.transition t ≡ false)
        → get_or (joined_to l o a.transition a.place) t 0 ≡ add (set_of arcs t kind) a.place (eqb a.transition t && cond kind a.post (not a.post))
    by true q (inl r) =
        let same = eqb-true a.transition t r in
        ap (λ (x : ℕ). get_or (joined_to l true a.transition a.place) x 0) (sym same)
        ∙ joined_own l a.transition a.place (omega arith) p (omega arith)
        ∙ ap (λ (x : ℕ). add x a.place true) (ap (λ (x : ℕ). get_or l x 0) same ∙ h t k)
        ∙ ap (λ b. add (set_of arcs t kind) a.place b) (sym (and_intro _ _ r (sym q)))
    by false q (inl r) =
        joined_none l a.transition a.place t ∙ h t k
        ∙ sym (ap (λ b. add (set_of arcs t kind) a.place b) (none (eqb a.transition t) (sym q)) ∙ add_none (set_of arcs t kind) a.place)
    by o q (inr r) =
        joined_other l o a.transition a.place t (λ z. eqb-false a.transition t r (sym z)) ∙ h t k
        ∙ sym (ap (λ b. add (set_of arcs t kind) a.place (b && cond kind a.post (not a.post))) r ∙ add_none (set_of arcs t kind) a.place)

pub holds_arc : (d : Drawing) (m : ℕ) (a : Arc) (pre post action : List ℕ) → a.place < length d.marks
    → Holds d m pre post action
    → Holds (add_arc d a) m (joined_to pre (not a.post) a.transition a.place) (joined_to post a.post a.transition a.place) action
holds_arc d m a pre post action p h =
    record {
      pre_size = joined_size pre (not a.post) a.transition a.place ∙ h.pre_size;
      post_size = joined_size post a.post a.transition a.place ∙ h.post_size;
      action_size = h.action_size;
      marks = h.marks;
      pres = λ l. joined_sets pre d.arcs a (not a.post) false refl h.pre_size (omega arith) (h.pres l);
      posts = λ l. joined_sets post d.arcs a a.post true refl h.post_size (omega arith) (h.posts l);
      actions = h.actions;
    }

-- ---- nothing yet

pub holds_nothing : (pre post action : List ℕ) → length pre ≡ 64 → length post ≡ 64 → length action ≡ 64
    → ((t : ℕ) → t < 64 → get_or pre t 0 ≡ 0) → ((t : ℕ) → t < 64 → get_or post t 0 ≡ 0)
    → Holds (record { marks = []; actions = []; arcs = [] }) 0 pre post action
unfolding marking_of set_of
holds_nothing pre post action lp lq la p q =
    record {
      pre_size = lp;
      post_size = lq;
      action_size = la;
      marks = λ l. refl;
      pres = λ l. p;
      posts = λ l. q;
      actions = λ t k l. absurd (omega arith);
    }
