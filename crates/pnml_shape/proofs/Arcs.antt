-- The order of arcs: what the machine asks of an arc's ends is that the arc is at least the least one that can still follow. Assumes nothing.
use mathlib.Core.Path.{◌≡◌, refl, sym, ap, ◌∙◌}
use mathlib.Core.Bool.{Bool, true, false, cond, not, ◌&&◌, ◌||◌, false≢true}
use mathlib.Core.List.{List, [], ◌∷◌}
use mathlib.Core.Logic.{◌⊎◌, inl, inr, ⊎_elim}
use Prim.Native.Nat.{ℕ, zero, suc, ◌+◌, ◌-◌, ◌*◌, ◌≤◌, ◌<◌, zero-le}
use native.Mathlib.Nat.{le_refl}
use native.Mathlib.Omega.{arith}
use lib.Dec.{eqb, ltb, leb}
use borrow.Author.Tests.{ltb-true, ltb-false, leb-true, leb-false, eqb-true, eqb-false, lt-ltb, le-leb, eq-eqb}
use Rattle.tables.proofs.Tests.{and_left, and_right, and_intro, or_left, or_right, if_true, if_false, passed}
use Rattle.tables.proofs.Tests as tests
use Rattle.pnml_shape.specs.Drawing.{Arc, rank, lower, rises}
use Rattle.pnml_shape.specs.Machine.{after, least, arc_open, pre_open, pre_from, pre_into, post_into}

-- what a test chooses is at most n where both are
at_most : (b : Bool) (x y n : ℕ) → (b ≡ true → x ≤ n) → (b ≡ false → y ≤ n) → cond b x y ≤ n
at_most true x y n f g = f refl
at_most false x y n f g = g refl

-- x is below y or equal to it
below_or_same : (x y : ℕ) → x ≤ y → (x < y) ⊎ (x ≡ y)
below_or_same x y h = ⊎_elim (λ e. inl (ltb-true x y e)) (λ e. let q = ltb-false x y e in inr (omega arith)) (passed (ltb x y))

-- an arc by its parts
abbrev pub made : (t : ℕ) (post : Bool) (p : ℕ) → Arc
made t post p = record { transition = t; post = post; place = p }

-- l is lower than a, or has a's rank and a place not above a's
abbrev pub AtLeast : (l a : Arc) → Type 0
AtLeast l a = (rank l < rank a) ⊎ ((rank l ≡ rank a) × (l.place ≤ a.place))

lower_true : (a b : Arc) → lower a b ≡ true → (rank a < rank b) ⊎ ((rank a ≡ rank b) × (a.place < b.place))
unfolding lower
lower_true a b h =
    ⊎_elim
    (λ e. inl (ltb-true (rank a) (rank b) e))
    (λ e. inr (
      eqb-true (rank a) (rank b) (and_left (eqb (rank a) (rank b)) (ltb a.place b.place) e),
      ltb-true a.place b.place (and_right (eqb (rank a) (rank b)) (ltb a.place b.place) e),
    ))
    (tests.either (ltb (rank a) (rank b)) (eqb (rank a) (rank b) && ltb a.place b.place) h)

lower_when : (a b : Arc) → (rank a < rank b) ⊎ ((rank a ≡ rank b) × (a.place < b.place)) → lower a b ≡ true
unfolding lower
lower_when a b (inl h) = or_left (ltb (rank a) (rank b)) (eqb (rank a) (rank b) && ltb a.place b.place) (lt-ltb (rank a) (rank b) h)
lower_when a b (inr h) =
    or_right (ltb (rank a) (rank b)) (eqb (rank a) (rank b) && ltb a.place b.place)
    (and_intro (eqb (rank a) (rank b)) (ltb a.place b.place) (eq-eqb (rank a) (rank b) h.0) (lt-ltb a.place b.place h.1))

-- ---- the least arc after another: the next place, or the first place of the next rank

abbrev Next : (P : ℕ) (b n : Arc) → Type 0
Next P b n = ((b.place + 1 < P) × (rank n ≡ rank b) × (n.place ≡ b.place + 1)) ⊎ ((P ≤ b.place + 1) × (rank n ≡ rank b + 1) × (n.place ≡ 0))

after_next : (P : ℕ) (b : Arc) → Next P b (after P b)
unfolding after rank
after_next P b = go b.transition b.post b.place
  where
    last : (t : ℕ) (post : Bool) (p : ℕ) → P ≤ p + 1
        → Next P (made t post p) (cond post (made (t + 1) false 0) (made t true 0))
    last t true p h = inr (h, omega arith, refl)
    last t false p h = inr (h, omega arith, refl)

    by : (c : Bool) (t : ℕ) (post : Bool) (p : ℕ) → ltb (p + 1) P ≡ c
        → Next P (made t post p) (cond c (made t post (p + 1)) (cond post (made (t + 1) false 0) (made t true 0)))
    by true t post p e = inl (ltb-true (p + 1) P e, refl, refl)
    by false t post p e = last t post p (ltb-false (p + 1) P e)

    go : (t : ℕ) (post : Bool) (p : ℕ) → Next P (made t post p) (after P (made t post p))
    go t post p = by (ltb (p + 1) P) t post p refl

first : (n p : ℕ) → (rank (made 0 false 0) < n) ⊎ ((rank (made 0 false 0) ≡ n) × (0 ≤ p))
unfolding rank
first zero p = inr (refl, zero-le)
first (suc n) p = inl (omega arith)

-- an arc that rises above the last one is at least the least, and the other way round
pub rises_least : (P : ℕ) (l : List Arc) (a : Arc) → a.place < P → rises l a ≡ true → AtLeast (least P l) a
unfolding rises least
rises_least P [] a p h = first (rank a) a.place
rises_least P (b ∷ l) a p h =
    ⊎_elim
    (λ n. ⊎_elim (λ x. inl (omega arith)) (λ x. inr (omega arith, omega arith)) (lower_true b a h))
    (λ n. ⊎_elim (λ x. by n.1 n.2 x) (λ x. absurd (omega arith)) (lower_true b a h))
    (after_next P b)
  where
    by : rank (after P b) ≡ rank b + 1 → (after P b).place ≡ 0 → rank b < rank a → AtLeast (after P b) a
    by e f x = ⊎_elim (λ y. inl (omega arith)) (λ y. inr (omega arith, omega arith)) (below_or_same (rank b + 1) (rank a) (omega arith))

pub least_rises : (P : ℕ) (l : List Arc) (a : Arc) → AtLeast (least P l) a → rises l a ≡ true
unfolding rises least
least_rises P [] a h = refl
least_rises P (b ∷ l) a h =
    lower_when b a
    (⊎_elim
    (λ n. ⊎_elim (λ x. inl (omega arith)) (λ x. inr (omega arith, omega arith)) h)
    (λ n. ⊎_elim (λ x. inl (omega arith)) (λ x. inl (omega arith)) h)
    (after_next P b))

-- its place is one of the places
pub least_place : (P : ℕ) (l : List Arc) → 0 < P → (least P l).place < P
unfolding least
least_place P [] h = h
least_place P (b ∷ l) h = ⊎_elim (λ n. omega arith) (λ n. omega arith) (after_next P b)

-- ---- an arc that is at least the least one meets what the machine asks

pub arc-open : (P T : ℕ) (l a : Arc) → l.place < P → a.transition < T → AtLeast l a → arc_open P T l ≡ true
unfolding arc_open rank
arc-open P T l a h t k = and_intro (ltb l.place P) (ltb l.transition T) (lt-ltb l.place P h) (lt-ltb l.transition T (by l.post a.post k))
  where
    by : (b c : Bool)
        → (2 * l.transition + cond b 1 0 < 2 * a.transition + cond c 1 0)
        ⊎ ((2 * l.transition + cond b 1 0 ≡ 2 * a.transition + cond c 1 0) × (l.place ≤ a.place))
        → l.transition < T
    by true true k = ⊎_elim (λ x. omega arith) (λ x. omega arith) k
    by true false k = ⊎_elim (λ x. omega arith) (λ x. omega arith) k
    by false true k = ⊎_elim (λ x. omega arith) (λ x. omega arith) k
    by false false k = ⊎_elim (λ x. omega arith) (λ x. omega arith) k

pub pre-open : (T : ℕ) (l : Arc) (t p : ℕ) → t < T → AtLeast l (made t false p) → pre_open T l ≡ true
unfolding pre_open rank
pre-open T l t p h k = by l.post k
  where
    by : (b : Bool) → (2 * l.transition + cond b 1 0 < 2 * t + 0) ⊎ ((2 * l.transition + cond b 1 0 ≡ 2 * t + 0) × (l.place ≤ p))
        → (not b || ltb (l.transition + 1) T) ≡ true
    by true k = lt-ltb (l.transition + 1) T (⊎_elim (λ x. omega arith) (λ x. omega arith) k)
    by false k = refl

pub pre-from : (T : ℕ) (l : Arc) (t p : ℕ) → t < T → AtLeast l (made t false p) → pre_from T l ≤ p
unfolding pre_from rank
pre-from T l t p h k =
    at_most (ltb (l.transition + 1) T) 0 l.place p (λ e. zero-le) (λ e. by l.post (ltb-false (l.transition + 1) T e) k)
  where
    by : (b : Bool) → T ≤ l.transition + 1 → (2 * l.transition + cond b 1 0 < 2 * t + 0) ⊎ ((2 * l.transition + cond b 1 0 ≡ 2 * t + 0) × (l.place ≤ p))
        → l.place ≤ p
    by true e k = ⊎_elim (λ x. omega arith) (λ x. x.1) k
    by false e k = ⊎_elim (λ x. omega arith) (λ x. x.1) k

pub pre-into : (l : Arc) (t p : ℕ) → AtLeast l (made t false p) → pre_into l p ≤ t
unfolding pre_into rank
pre-into l t p k = by l.post k
  where
    by : (b : Bool) → (2 * l.transition + cond b 1 0 < 2 * t + 0) ⊎ ((2 * l.transition + cond b 1 0 ≡ 2 * t + 0) × (l.place ≤ p))
        → cond (not b && leb l.place p) l.transition (l.transition + 1) ≤ t
    by true k = ⊎_elim (λ x. omega arith) (λ x. omega arith) k
    by false k =
        at_most (leb l.place p) l.transition (l.transition + 1) t (λ e. ⊎_elim (λ x. omega arith) (λ x. omega arith) k)
        (λ e. let q = leb-false l.place p e in ⊎_elim (λ x. omega arith) (λ x. omega arith) k)

pub post_from : (l : Arc) (t p : ℕ) → AtLeast l (made t true p) → l.transition ≤ t
unfolding rank
post_from l t p k = by l.post k
  where
    by : (b : Bool) → (2 * l.transition + cond b 1 0 < 2 * t + 1) ⊎ ((2 * l.transition + cond b 1 0 ≡ 2 * t + 1) × (l.place ≤ p)) → l.transition ≤ t
    by true k = ⊎_elim (λ x. omega arith) (λ x. omega arith) k
    by false k = ⊎_elim (λ x. omega arith) (λ x. omega arith) k

pub post-into : (l : Arc) (t p : ℕ) → AtLeast l (made t true p) → post_into l t ≤ p
unfolding post_into rank
post-into l t p k = by l.post k
  where
    by : (b : Bool) → (2 * l.transition + cond b 1 0 < 2 * t + 1) ⊎ ((2 * l.transition + cond b 1 0 ≡ 2 * t + 1) × (l.place ≤ p))
        → cond (b && eqb t l.transition) l.place 0 ≤ p
    by true k =
        at_most (eqb t l.transition) l.place 0 p (λ e. let q = eqb-true t l.transition e in ⊎_elim (λ x. omega arith) (λ x. x.1) k) (λ e. zero-le)
    by false k = zero-le

-- ---- and the other way round

pub pre_back : (l : Arc) (t p : ℕ) → pre_into l p ≤ t → AtLeast l (made t false p)
unfolding pre_into rank
pre_back l t p k = by l.post k
  where
    on : (c : Bool) → leb l.place p ≡ c → cond c l.transition (l.transition + 1) ≤ t
        → (2 * l.transition + 0 < 2 * t + 0) ⊎ ((2 * l.transition + 0 ≡ 2 * t + 0) × (l.place ≤ p))
    on true e k =
        ⊎_elim (λ x. inl (omega arith)) (λ x. inr (omega arith, leb-true l.place p e)) (below_or_same l.transition t k)
    on false e k = inl (omega arith)

    by : (b : Bool) → cond (not b && leb l.place p) l.transition (l.transition + 1) ≤ t
        → (2 * l.transition + cond b 1 0 < 2 * t + 0) ⊎ ((2 * l.transition + cond b 1 0 ≡ 2 * t + 0) × (l.place ≤ p))
    by true k = inl (omega arith)
    by false k = on (leb l.place p) refl k

pub post_back : (l : Arc) (t p : ℕ) → l.transition ≤ t → post_into l t ≤ p → AtLeast l (made t true p)
unfolding post_into rank
post_back l t p h k = by l.post k
  where
    on : (c : Bool) → eqb t l.transition ≡ c → cond c l.place 0 ≤ p
        → (2 * l.transition + 1 < 2 * t + 1) ⊎ ((2 * l.transition + 1 ≡ 2 * t + 1) × (l.place ≤ p))
    on true e k = let q = eqb-true t l.transition e in inr (omega arith, k)
    on false e k =
        ⊎_elim (λ x. inl (omega arith)) (λ x. absurd (eqb-false t l.transition e (sym x))) (below_or_same l.transition t h)

    by : (b : Bool) → cond (b && eqb t l.transition) l.place 0 ≤ p
        → (2 * l.transition + cond b 1 0 < 2 * t + 1) ⊎ ((2 * l.transition + cond b 1 0 ≡ 2 * t + 1) × (l.place ≤ p))
    by true k = on (eqb t l.transition) refl k
    by false k = inl (omega arith)

-- ---- where an arc can follow, each of its ends has a number left

pub pre_range : (P T : ℕ) (l : Arc) → arc_open P T l ≡ true → pre_from T l ≤ P - 1
unfolding arc_open pre_from
pre_range P T l h =
    let p = ltb-true l.place P (and_left (ltb l.place P) (ltb l.transition T) h) in
    at_most (ltb (l.transition + 1) T) 0 l.place (P - 1) (λ e. zero-le) (λ e. omega arith)

pub pre_into_range : (P T : ℕ) (l : Arc) (p : ℕ) → arc_open P T l ≡ true → pre_open T l ≡ true → pre_from T l ≤ p → pre_into l p ≤ T - 1
unfolding arc_open pre_open pre_from pre_into
pre_into_range P T l p h k f = by l.post k
  where
    few : l.transition < T
    few = ltb-true l.transition T (and_right (ltb l.place P) (ltb l.transition T) h)

    more : (c : Bool) → ltb (l.transition + 1) T ≡ c → p < l.place → cond c 0 l.place ≤ p → l.transition + 1 ≤ T - 1
    more true e q g = let x = ltb-true (l.transition + 1) T e in omega arith
    more false e q g = absurd (omega arith)

    on : (c : Bool) → leb l.place p ≡ c → cond c l.transition (l.transition + 1) ≤ T - 1
    on true e = let q = few in omega arith
    on false e = more (ltb (l.transition + 1) T) refl (leb-false l.place p e) f

    by : (b : Bool) → (not b || ltb (l.transition + 1) T) ≡ true → cond (not b && leb l.place p) l.transition (l.transition + 1) ≤ T - 1
    by true k = let x = ltb-true (l.transition + 1) T k in omega arith
    by false k = on (leb l.place p) refl

pub post_range : (P T : ℕ) (l : Arc) → arc_open P T l ≡ true → l.transition ≤ T - 1
unfolding arc_open
post_range P T l h = let p = ltb-true l.transition T (and_right (ltb l.place P) (ltb l.transition T) h) in omega arith

pub post_into_range : (P T : ℕ) (l : Arc) (t : ℕ) → arc_open P T l ≡ true → post_into l t ≤ P - 1
unfolding arc_open post_into
post_into_range P T l t h =
    let p = ltb-true l.place P (and_left (ltb l.place P) (ltb l.transition T) h) in
    at_most (l.post && eqb t l.transition) l.place 0 (P - 1) (λ e. omega arith) (λ e. zero-le)
