-- The arcs of a net's drawing give each transition's sets back. Assumes nothing.
use mathlib.Core.Path.{◌≡◌, refl, sym, ap, ap₂, ◌∙◌}
use mathlib.Core.Bool.{Bool, true, false, cond, not, ◌&&◌, and-false}
use mathlib.Core.List.{List, ◌∷◌, ◌++◌}
use mathlib.Core.Logic.{◌⊎◌, inl, inr}
use Prim.Native.Nat.{ℕ, zero, suc, ◌≤◌, ◌<◌}
use native.Mathlib.Nat.{not-suc-le-zero}
use native.Mathlib.Numerals.{add-one}
use native.Mathlib.Omega.{arith}
use lib.Dec.{eqb}
use borrow.Author.Tests.{eq-eqb, ne_eqb, eqb-true, eqb-false}
use Rattle.tables.proofs.Tests.{passed}
use Rattle.bitset.specs.Sets.{member, add, within, collect}
use Rattle.bitset.proofs.Relations.{collect_step}
use Rattle.net.specs.declared.Net.{Net}
use Rattle.net.specs.Step.{pre_of, post_of}
use Rattle.pnml_shape.specs.Drawing.{Arc}
use Rattle.pnml_net.specs.Nets.{arcs_by, net_arcs, joins, set_of}
use Rattle.pnml_net.proofs.Marks.{collect_back}
use Rattle.pnml_net.proofs.Members.{arc}

-- ---- the arcs of one set

-- an arc of transition u, pre or post as q says, counts for transition t, pre or post as q' says
abbrev counts : (u : ℕ) (q : Bool) (t : ℕ) (q' : Bool) → Bool
counts u q t q' = eqb u t && cond q' q (not q)

-- arcs of another set change nothing
skips : (s u : ℕ) (q : Bool) (t : ℕ) (q' : Bool) (l : List Arc) → counts u q t q' ≡ false
    → (p : ℕ) → set_of (arcs_by s u q p ++ l) t q' ≡ set_of l t q'
unfolding arcs_by set_of joins add
skips s u q t q' l e zero = refl
skips s u q t q' l e (suc p) = by (skips s u q t q' l e p) (member s p)
  where
    by : set_of (arcs_by s u q p ++ l) t q' ≡ set_of l t q' → (b : Bool)
        → set_of (cond b (arc u q p ∷ arcs_by s u q p) (arcs_by s u q p) ++ l) t q' ≡ set_of l t q'
    by ih true = ap (λ b. add (set_of (arcs_by s u q p ++ l) t q') p b) e ∙ ih
    by ih false = ih

-- the arcs of the set itself give its members
counts_own : (t : ℕ) (q : Bool) → counts t q t q ≡ true
counts_own t true = ap (λ b. b && true) (eq-eqb t t refl)
counts_own t false = ap (λ b. b && true) (eq-eqb t t refl)

fills : (s t : ℕ) (q : Bool) (l : List Arc) → set_of l t q ≡ 0 → (p : ℕ) → set_of (arcs_by s t q p ++ l) t q ≡ collect (member s) p
unfolding arcs_by set_of joins collect
fills s t q l e zero = e
fills s t q l e (suc p) = by (fills s t q l e p) (member s p) ∙ collect_step (member s) p ∙ ap (collect (member s)) (add-one p)
  where
    by : set_of (arcs_by s t q p ++ l) t q ≡ collect (member s) p → (b : Bool)
        → set_of (cond b (arc t q p ∷ arcs_by s t q p) (arcs_by s t q p) ++ l) t q ≡ add (collect (member s) p) p b
    by ih true = ap₂ (λ (x : ℕ) b. add x p b) ih (counts_own t q)
    by ih false = ih ∙ sym (unfold add in refl)

-- ---- the arcs of a net

other : (u t : ℕ) (q q' : Bool) → (u ≡ t → ⊥) → counts u q t q' ≡ false
other u t q q' d = ap (λ b. b && cond q' q (not q)) (ne_eqb u t d)

opposite : (u t : ℕ) (q : Bool) → counts u q t (not q) ≡ false
opposite u t true = and-false (eqb u t)
opposite u t false = and-false (eqb u t)

module _ (N : Net) where
  -- another transition's arcs
  passes : (u t : ℕ) (q : Bool) → (u ≡ t → ⊥) → set_of (net_arcs N (suc u)) t q ≡ set_of (net_arcs N u) t q
  unfolding net_arcs
  passes u t q d =
      skips (post_of N u) u true t q (arcs_by (pre_of N u) u false N.places ++ net_arcs N u) (other u t true q d) N.places
      ∙ skips (pre_of N u) u false t q (net_arcs N u) (other u t false q d) N.places

  -- no arc of a transition stands among those of the transitions before it
  pub before : (n t : ℕ) (q : Bool) → n ≤ t → set_of (net_arcs N n) t q ≡ 0
  unfolding net_arcs set_of
  before zero t q h = refl
  before (suc u) t q h = passes u t q (λ e. omega arith) ∙ before u t q (omega arith)

  -- the arcs of transition t
  set_own : (t : ℕ) (q : Bool) → set_of (net_arcs N (suc t)) t q ≡ collect (member (cond q (post_of N t) (pre_of N t))) N.places
  unfolding net_arcs
  set_own t true =
      fills (post_of N t) t true (arcs_by (pre_of N t) t false N.places ++ net_arcs N t)
      (skips (pre_of N t) t false t true (net_arcs N t) (opposite t t false) N.places ∙ before t t true (omega arith))
      N.places
  set_own t false =
      skips (post_of N t) t true t false (arcs_by (pre_of N t) t false N.places ++ net_arcs N t) (opposite t t true) N.places
      ∙ fills (pre_of N t) t false (net_arcs N t) (before t t false (omega arith)) N.places

  set-of : (t : ℕ) (q : Bool) (n : ℕ) → t < n → set_of (net_arcs N n) t q ≡ collect (member (cond q (post_of N t) (pre_of N t))) N.places
  set-of t q zero h = absurd (not-suc-le-zero h)
  set-of t q (suc u) h = by (passed (eqb u t)) (set-of t q u)
    where
      by : (eqb u t ≡ true) ⊎ (eqb u t ≡ false)
          → (t < u → set_of (net_arcs N u) t q ≡ collect (member (cond q (post_of N t) (pre_of N t))) N.places)
          → set_of (net_arcs N (suc u)) t q ≡ collect (member (cond q (post_of N t) (pre_of N t))) N.places
      by (inl e) ih = ap (λ (x : ℕ). set_of (net_arcs N (suc x)) t q) (eqb-true u t e) ∙ set_own t q
      by (inr e) ih = let d : u ≡ t → ⊥ = eqb-false u t e in passes u t q d ∙ ih (omega arith)

-- a transition's set drawn and read back is the same
pub set_back : (N : Net) (n t : ℕ) (post : Bool) → t < n → within N.places (cond post (post_of N t) (pre_of N t)) ≡ true
    → set_of (net_arcs N n) t post ≡ cond post (post_of N t) (pre_of N t)
set_back N n t post l h = set-of N t post n l ∙ collect_back N.places (cond post (post_of N t) (pre_of N t)) h
