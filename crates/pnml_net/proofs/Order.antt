-- Rising lists of arcs: their sets lie within the places and transitions, and two lists with the same sets are equal. Assumes nothing.
use mathlib.Core.Path.{◌≡◌, refl, sym, ap, ap₂, ◌∙◌, subst}
use mathlib.Core.Bool.{Bool, true, false, cond, not, ◌&&◌, false≢true}
use mathlib.Core.List.{List, [], ◌∷◌}
use mathlib.Core.Logic.{◌⊎◌, inl, inr}
use Prim.Native.Nat.{ℕ, ◌≤◌, ◌<◌, zero-le}
use native.Mathlib.Nat.{lt-suc_self}
use native.Mathlib.Omega.{arith}
use lib.Dec.{eqb, ltb}
use borrow.Author.Tests.{eqb-true, eq-eqb, ne_eqb, ltb-true, lt-ltb}
use Rattle.tables.proofs.Tests.{and_left, and_right, and_intro, or_left, or_right, either, passed, failed}
use Rattle.bitset.specs.Sets.{member, add, within}
use Rattle.bitset.proofs.Relations.{within_wide}
use Rattle.pnml_shape.specs.Drawing.{Arc, rank, lower, rises, arcs_good}
use Rattle.pnml_net.specs.Nets.{joins, set_of}
use Rattle.pnml_net.proofs.Members.{same_arc, same_arc_is, has, has_cons, has_none, has_head, has_rest, within_add}

-- ---- the order of arcs

abbrev LowerThan : Arc → Arc → Type 0
LowerThan a b = (rank a < rank b) ⊎ ((rank a ≡ rank b) × (a.place < b.place))

lower_than : (a b : Arc) → lower a b ≡ true → LowerThan a b
unfolding lower
lower_than a b h = by (either (ltb (rank a) (rank b)) (eqb (rank a) (rank b) && ltb a.place b.place) h)
  where
    by : (ltb (rank a) (rank b) ≡ true) ⊎ ((eqb (rank a) (rank b) && ltb a.place b.place) ≡ true)
        → LowerThan a b
    by (inl e) = inl (ltb-true (rank a) (rank b) e)
    by (inr e) =
        inr (
          eqb-true (rank a) (rank b) (and_left (eqb (rank a) (rank b)) (ltb a.place b.place) e),
          ltb-true a.place b.place (and_right (eqb (rank a) (rank b)) (ltb a.place b.place) e),
        )

than_lower : (a b : Arc) → LowerThan a b → lower a b ≡ true
unfolding lower
than_lower a b (inl h) = or_left (ltb (rank a) (rank b)) (eqb (rank a) (rank b) && ltb a.place b.place) (lt-ltb (rank a) (rank b) h)
than_lower a b (inr h) =
    or_right (ltb (rank a) (rank b)) (eqb (rank a) (rank b) && ltb a.place b.place)
    (and_intro (eqb (rank a) (rank b)) (ltb a.place b.place) (eq-eqb (rank a) (rank b) h.0) (lt-ltb a.place b.place h.1))

lower_trans : (a b c : Arc) → lower a b ≡ true → lower b c ≡ true → lower a c ≡ true
lower_trans a b c h k = than_lower a c (by (lower_than a b h) (lower_than b c k))
  where
    by : LowerThan a b → LowerThan b c → LowerThan a c
    by (inl p) (inl q) = inl (omega arith)
    by (inl p) (inr q) = inl (omega arith)
    by (inr p) (inl q) = inl (omega arith)
    by (inr p) (inr q) = inr (omega arith, omega arith)

lower_once : (a b : Arc) → lower a b ≡ true → lower b a ≡ true → ⊥
lower_once a b h k = by (lower_than a b h) (lower_than b a k)
  where
    by : LowerThan a b → LowerThan b a → ⊥
    by (inl p) (inl q) = omega arith
    by (inl p) (inr q) = omega arith
    by (inr p) (inl q) = omega arith
    by (inr p) (inr q) = omega arith

-- ---- the arcs of a good list

module _ (P T : ℕ) where
  -- what a good list with one arc more has
  pub head_place : (a : Arc) (l : List Arc) → arcs_good P T (a ∷ l) ≡ true → a.place < P
  unfolding arcs_good
  head_place a l g =
      ltb-true a.place P
      (and_left (ltb a.place P) (ltb a.transition T)
      (and_left (ltb a.place P && ltb a.transition T) (rises l a && arcs_good P T l) g))

  pub head_transition : (a : Arc) (l : List Arc) → arcs_good P T (a ∷ l) ≡ true → a.transition < T
  unfolding arcs_good
  head_transition a l g =
      ltb-true a.transition T
      (and_right (ltb a.place P) (ltb a.transition T)
      (and_left (ltb a.place P && ltb a.transition T) (rises l a && arcs_good P T l) g))

  head_rises : (a : Arc) (l : List Arc) → arcs_good P T (a ∷ l) ≡ true → rises l a ≡ true
  unfolding arcs_good
  head_rises a l g =
      and_left (rises l a) (arcs_good P T l) (and_right (ltb a.place P && ltb a.transition T) (rises l a && arcs_good P T l) g)

  pub tail_good : (a : Arc) (l : List Arc) → arcs_good P T (a ∷ l) ≡ true → arcs_good P T l ≡ true
  unfolding arcs_good
  tail_good a l g =
      and_right (rises l a) (arcs_good P T l) (and_right (ltb a.place P && ltb a.transition T) (rises l a && arcs_good P T l) g)

  -- its sets lie within the places
  pub sets-within : (l : List Arc) → arcs_good P T l ≡ true → (t : ℕ) (q : Bool) → within P (set_of l t q) ≡ true
  unfolding set_of
  sets-within [] g t q = within_wide 0 P 0 (lt-suc_self 0) zero-le
  sets-within (a ∷ l) g t q =
      within_add P (set_of l t q) a.place (joins a t q) (sets-within l (tail_good a l g) t q) (head_place a l g)

  -- and are empty from its transitions on
  pub sets_none : (l : List Arc) → arcs_good P T l ≡ true → (t : ℕ) (q : Bool) → T ≤ t → set_of l t q ≡ 0
  unfolding set_of joins add
  sets_none [] g t q h = refl
  sets_none (a ∷ l) g t q h =
      let k : a.transition < T = head_transition a l g in
      ap (λ b. add (set_of l t q) a.place (b && cond q a.post (not a.post))) (ne_eqb a.transition t (λ e. omega arith))
      ∙ sets_none l (tail_good a l g) t q h

  -- an arc before the last one is lower
  before_lower : (b : Arc) (l : List Arc) → arcs_good P T (b ∷ l) ≡ true → (x : Arc) → has l x ≡ true → lower x b ≡ true
  before_lower b [] g x h = absurd (false≢true (sym (has_none x) ∙ h))
  before_lower b (c ∷ l) g x h =
      by (either (has l x) (same_arc c x) (sym (has_cons c l x) ∙ h)) (before_lower c l (tail_good b (c ∷ l) g) x)
    where
      down : lower c b ≡ true
      down = unfold rises in head_rises b (c ∷ l) g

      by : (has l x ≡ true) ⊎ (same_arc c x ≡ true) → (has l x ≡ true → lower x c ≡ true) → lower x b ≡ true
      by (inl e) ih = lower_trans x c b (ih e) down
      by (inr e) ih = subst (λ y. lower y b ≡ true) (same_arc_is c x e) down

  -- the last arc stands once
  last_once : (a : Arc) (l : List Arc) → arcs_good P T (a ∷ l) ≡ true → (x : Arc) → same_arc a x ≡ true → has l x ≡ false
  last_once a l g x e =
      failed (has l x)
      (λ h. let z : lower a a ≡ true = subst (λ y. lower y a ≡ true) (sym (same_arc_is a x e)) (before_lower a l g x h) in lower_once a a z z)

  -- ---- two good lists with the same arcs

  same_last : (a b : Arc) (l k : List Arc) → arcs_good P T (a ∷ l) ≡ true → arcs_good P T (b ∷ k) ≡ true
      → ((x : Arc) → has (a ∷ l) x ≡ has (b ∷ k) x) → a ≡ b
  same_last a b l k g g' e =
      by (either (has k a) (same_arc b a) (sym (has_cons b k a) ∙ sym (e a) ∙ has_head a l))
      (either (has l b) (same_arc a b) (sym (has_cons a l b) ∙ e b ∙ has_head b k))
    where
      by : (has k a ≡ true) ⊎ (same_arc b a ≡ true) → (has l b ≡ true) ⊎ (same_arc a b ≡ true) → a ≡ b
      by (inr p) q = sym (same_arc_is b a p)
      by (inl p) (inr q) = same_arc_is a b q
      by (inl p) (inl q) = absurd (lower_once a b (before_lower b k g' a p) (before_lower a l g b q))

  same_rest : (a : Arc) (l k : List Arc) → arcs_good P T (a ∷ l) ≡ true → arcs_good P T (a ∷ k) ≡ true
      → ((x : Arc) → has (a ∷ l) x ≡ has (a ∷ k) x) → (x : Arc) → has l x ≡ has k x
  same_rest a l k g g' e x = by (passed (same_arc a x))
    where
      by : (same_arc a x ≡ true) ⊎ (same_arc a x ≡ false) → has l x ≡ has k x
      by (inl s) = last_once a l g x s ∙ sym (last_once a k g' x s)
      by (inr s) = sym (has_rest a l x s) ∙ e x ∙ has_rest a k x s

  same_arcs : (l k : List Arc) → arcs_good P T l ≡ true → arcs_good P T k ≡ true → ((x : Arc) → has l x ≡ has k x) → l ≡ k
  same_arcs [] [] g g' e = refl
  same_arcs [] (b ∷ k) g g' e = absurd (false≢true (sym (has_none b) ∙ e b ∙ has_head b k))
  same_arcs (a ∷ l) [] g g' e = absurd (false≢true (sym (has_none a) ∙ sym (e a) ∙ has_head a l))
  same_arcs (a ∷ l) (b ∷ k) g g' e =
      let h : b ≡ a = sym (same_last a b l k g g' e) in
      let g'' : arcs_good P T (a ∷ k) ≡ true = subst (λ c. arcs_good P T (c ∷ k) ≡ true) h g' in
      ap₂ ◌∷◌ (sym h)
      (same_arcs l k (tail_good a l g) (tail_good a k g'')
      (same_rest a l k g g'' (λ x. e x ∙ ap (λ c. has (c ∷ k) x) h)))

  -- they are equal where they give the same sets
  pub same_sets : (l k : List Arc) → arcs_good P T l ≡ true → arcs_good P T k ≡ true
      → ((t : ℕ) (q : Bool) → set_of l t q ≡ set_of k t q) → l ≡ k
  unfolding has
  same_sets l k g g' e = same_arcs l k g g' (λ x. ap (λ (s : ℕ). member s x.place) (e x.transition x.post))
