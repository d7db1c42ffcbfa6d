-- The drawing of a net with a marking is good. Assumes nothing.
use mathlib.Core.Path.{◌≡◌, refl, ap₂, ◌∙◌}
use mathlib.Core.Bool.{Bool, true, false, cond, ◌&&◌}
use mathlib.Core.List.{List, [], ◌∷◌, ◌++◌}
use Prim.Native.Nat.{ℕ, zero, suc, ◌+◌, ◌*◌, ◌≤◌, ◌<◌}
use native.Mathlib.Nat.{le_refl}
use native.Mathlib.Omega.{arith}
use lib.ListN.{length}
use lib.Dec.{eqb, ltb}
use borrow.Author.Tests.{lt-ltb, ltb-true, eq-eqb}
use Rattle.tables.proofs.Tests.{and_intro, or_left, or_right}
use Rattle.bitset.specs.Sets.{member}
use Rattle.net.specs.declared.Net.{Net}
use Rattle.net.specs.Step.{pre_of, post_of}
use Rattle.pnml_shape.specs.Drawing.{Arc, rank, lower, rises, arcs_good, at_most, good}
use Rattle.pnml_net.specs.Nets.{countdown, mark_of, arcs_by, net_arcs, entry_of, drawing_of}
use Rattle.pnml_net.proofs.Marks.{countdown_length, countdown_most, mark_most}
use Rattle.pnml_net.proofs.Members.{arc}

-- the last arc, if there is one, has a rank below r
rank_below : List Arc → ℕ → Bool
rank_below [] r = true
rank_below (a ∷ l) r = ltb (rank a) r

rank_more : (l : List Arc) (r s : ℕ) → r ≤ s → rank_below l r ≡ true → rank_below l s ≡ true
unfolding rank_below
rank_more [] r s h e = refl
rank_more (a ∷ l) r s h e = let u : rank a < r = ltb-true (rank a) r e in lt-ltb (rank a) s (omega arith)

rank_rises : (l : List Arc) (a : Arc) → rank_below l (rank a) ≡ true → rises l a ≡ true
unfolding rank_below rises lower
rank_rises [] a e = refl
rank_rises (b ∷ l) a e = or_left (ltb (rank b) (rank a)) (eqb (rank b) (rank a) && ltb b.place a.place) e

-- ---- the arcs of one set, after arcs of a lower rank

module _ (s t : ℕ) (q : Bool) (l : List Arc) (below : rank_below l (2 * t + cond q 1 0) ≡ true) where
  same_rank : (p p' : ℕ) → p < p' → lower (arc t q p) (arc t q p') ≡ true
  unfolding lower rank
  same_rank p p' h =
      let r = 2 * t + cond q 1 0 in
      or_right (ltb r r) (eqb r r && ltb p p') (and_intro (eqb r r) (ltb p p') (eq-eqb r r refl) (lt-ltb p p' h))

  -- they end below a place from which on none was drawn
  by_rises : (p p' : ℕ) → p ≤ p' → rises (arcs_by s t q p ++ l) (arc t q p') ≡ true
  unfolding arcs_by rank
  by_rises zero p' h = rank_rises l (arc t q p') below
  by_rises (suc p) p' h = by (by_rises p p' (omega arith)) (member s p)
    where
      by : rises (arcs_by s t q p ++ l) (arc t q p') ≡ true → (b : Bool)
          → rises (cond b (arc t q p ∷ arcs_by s t q p) (arcs_by s t q p) ++ l) (arc t q p') ≡ true
      by ih true = unfold rises in same_rank p p' h
      by ih false = ih

  by_good : (P T p : ℕ) → p ≤ P → t < T → arcs_good P T l ≡ true → arcs_good P T (arcs_by s t q p ++ l) ≡ true
  unfolding arcs_by
  by_good P T zero h k g = g
  by_good P T (suc p) h k g = by (by_good P T p (omega arith) k g) (member s p)
    where
      by : arcs_good P T (arcs_by s t q p ++ l) ≡ true → (b : Bool)
          → arcs_good P T (cond b (arc t q p ∷ arcs_by s t q p) (arcs_by s t q p) ++ l) ≡ true
      by ih true =
          unfold arcs_good in
          and_intro (ltb p P && ltb t T) (rises (arcs_by s t q p ++ l) (arc t q p) && arcs_good P T (arcs_by s t q p ++ l))
          (and_intro (ltb p P) (ltb t T) (lt-ltb p P h) (lt-ltb t T k))
          (and_intro (rises (arcs_by s t q p ++ l) (arc t q p)) (arcs_good P T (arcs_by s t q p ++ l)) (by_rises p p (le_refl p)) ih)
      by ih false = ih

  by_rank : (r p : ℕ) → 2 * t + cond q 1 0 < r → rank_below (arcs_by s t q p ++ l) r ≡ true
  unfolding arcs_by
  by_rank r zero h = rank_more l (2 * t + cond q 1 0) r (omega arith) below
  by_rank r (suc p) h = by (by_rank r p h) (member s p)
    where
      by : rank_below (arcs_by s t q p ++ l) r ≡ true → (b : Bool) → rank_below (cond b (arc t q p ∷ arcs_by s t q p) (arcs_by s t q p) ++ l) r ≡ true
      by ih true = unfold rank_below rank in lt-ltb (2 * t + cond q 1 0) r h
      by ih false = ih

-- ---- the arcs of a net

module _ (N : Net) where
  -- those of the first t transitions, then the pre arcs of t
  pres : ℕ → List Arc
  pres t = arcs_by (pre_of N t) t false N.places ++ net_arcs N t

  net_start : (t : ℕ) → rank_below (net_arcs N t) (2 * t) ≡ true → rank_below (net_arcs N t) (2 * t + 0) ≡ true
  net_start t h = rank_more (net_arcs N t) (2 * t) (2 * t + 0) (omega arith) h

  pre_rank : (t : ℕ) → rank_below (net_arcs N t) (2 * t) ≡ true → rank_below (pres t) (2 * t + 1) ≡ true
  unfolding pres
  pre_rank t h = by_rank (pre_of N t) t false (net_arcs N t) (net_start t h) (2 * t + 1) N.places (omega arith)

  -- the arcs of the first n transitions end below transition n
  net_rank : (n : ℕ) → rank_below (net_arcs N n) (2 * n) ≡ true
  unfolding net_arcs rank_below pres
  net_rank zero = refl
  net_rank (suc t) = by_rank (post_of N t) t true (pres t) (pre_rank t (net_rank t)) (2 * suc t) N.places (omega arith)

  pub net-good : (T n : ℕ) → n ≤ T → arcs_good N.places T (net_arcs N n) ≡ true
  unfolding net_arcs arcs_good pres
  net-good T zero h = refl
  net-good T (suc t) h =
      by_good (post_of N t) t true (pres t) (pre_rank t (net_rank t)) N.places T N.places (le_refl N.places) h
      (by_good (pre_of N t) t false (net_arcs N t) (net_start t (net_rank t)) N.places T N.places (le_refl N.places) h
      (net-good T t (omega arith)))

-- whatever its sets: only arcs of the net's places are drawn
pub drawing_good : (N : Net) (m : ℕ) → ((t : ℕ) → t < N.transitions → entry_of N t ≤ 131071) → good (drawing_of N m) ≡ true
unfolding good drawing_of
drawing_good N m h =
    and_intro (at_most 1 marks) (at_most 131071 actions && arcs_good (length marks) (length actions) arcs)
    (countdown_most 1 (mark_of m) N.places (λ k _. mark_most m k))
    (and_intro (at_most 131071 actions) (arcs_good (length marks) (length actions) arcs) (countdown_most 131071 (entry_of N) N.transitions h)
    (ap₂ (λ (P T : ℕ). arcs_good P T arcs) (countdown_length (mark_of m) N.places) (countdown_length (entry_of N) N.transitions)
    ∙ net-good N N.transitions N.transitions (le_refl N.transitions)))
  where
    marks : List ℕ
    marks = countdown (mark_of m) N.places

    actions : List ℕ
    actions = countdown (entry_of N) N.transitions

    arcs : List Arc
    arcs = net_arcs N N.transitions
