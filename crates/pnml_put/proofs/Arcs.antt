-- Arcs that are put one after the other. Assumes nothing.
use mathlib.Core.Path.{◌≡◌, refl, sym, ap, ap₂, ◌∙◌, subst}
use mathlib.Core.Bool.{Bool, true, false, cond, ◌&&◌}
use mathlib.Core.List.{List, [], ◌∷◌, ◌++◌, append_assoc, append-nil}
use Prim.Native.Nat.{ℕ, zero, suc, ◌+◌, ◌-◌, ◌/◌, ◌%◌, ◌^◌, ◌≤◌, ◌<◌}
use native.Mathlib.Nat.{add-zero, add-suc, zero-div, le_refl}
use native.Mathlib.Numerals.{add-one}
use native.Mathlib.Omega.{arith}
use lib.ListN.{length, length-append}
use lib.Dec.{eqb, leb}
use borrow.Author.Tests.{eqb-true, leb-true}
use Rattle.tables.proofs.Tests.{and_left, and_right}
use lib.Pow.{shr-shr}
use Rattle.bitset.specs.Sets.{member}
use Rattle.net.specs.Table.{pre_at, post_at, net_of, table_sized, transitions}
use Rattle.net.specs.Step.{pre_of}
use Rattle.net.proofs.Answers.{decoded_pre, decoded_post}
use Rattle.pnml_shape.specs.Drawing.{Arc, arc_piece, arcs, joined}
use Rattle.pnml_net.specs.Nets.{arcs_by, net_arcs}
use Rattle.pnml_put.specs.Put.{Fit, FitArcs, arc_of, arc_where, arcs_at, arcs_from, table_arcs}
use Rattle.pnml_put.proofs.Fits.{fit_none, fit_join, fit_recast}
use Rattle.pnml_put.proofs.Pieces.{joined_append}

-- ---- texts

-- the text of arcs after others is the text of both
pub arcs_append : (n : ℕ) (a l : List Arc) → arcs_from n l ++ arcs_from (n + length l) a ≡ arcs_from n (a ++ l)
unfolding arcs_from
arcs_append n [] l = append-nil (arcs_from n l)
arcs_append n (x ∷ a) l =
    sym (append_assoc (arcs_from n l) (arcs_from (n + length l) a) (arc_piece (n + length l + length a) x))
    ∙ ap₂ (λ (t : List ℕ) (k : ℕ). t ++ arc_piece k x) (arcs_append n a l) (let e = length-append a l in omega arith)

-- the text of all arcs
pub arcs-text : (l : List Arc) → arcs_from 0 l ≡ joined (arcs l)
unfolding arcs_from arcs joined
arcs-text [] = refl
arcs-text (a ∷ l) =
    ap₂ (λ (t : List ℕ) (k : ℕ). t ++ arc_piece k a) (arcs-text l) (omega arith)
    ∙ sym (joined_append (arcs l) (arc_piece (length l) a ∷ []) ∙ ap (λ (t : List ℕ). joined (arcs l) ++ t) (append-nil (arc_piece (length l) a)))

-- ---- calls

-- no arc yet
pub no_arcs : (l : List ℕ) (at others : ℕ) → at ≤ length l → FitArcs 0 l l at others [] at others
unfolding arcs_from
no_arcs l at n h = record { text = fit_recast (omega arith) refl (fit_none l at h); total = omega arith; few = omega arith }

-- some arcs after others
pub join_arcs : {j k : ℕ} {l₀ l₁ l₂ : List ℕ} {at mid end n c d : ℕ} {a b : List Arc} → FitArcs j l₀ l₁ at n a mid c → FitArcs k l₁ l₂ mid c b end d
    → FitArcs (j + k) l₀ l₂ at n (b ++ a) end d
join_arcs {j} {k} {l₀} {l₁} {l₂} {at} {mid} {end} {n} {c} {d} {a} {b} p q =
    record {
      text = fit_recast (omega arith) (ap (λ (x : ℕ). arcs_from n a ++ arcs_from x b) p.total ∙ arcs_append n b a) (fit_join p.text q.text);
      total = let e = length-append b a in omega (arith, p.total, q.total);
      few = omega (arith, p.few, q.few);
    }

-- the same arcs by another name, and another bound
pub recast_arcs : {j k : ℕ} {l₀ l₁ : List ℕ} {at end n c : ℕ} {a b : List Arc} → j ≤ k → a ≡ b → FitArcs j l₀ l₁ at n a end c
    → FitArcs k l₀ l₁ at n b end c
recast_arcs {j} {k} {l₀} {l₁} {at} {end} {n} {c} {a} {b} h e p =
    record {
      text = fit_recast (omega arith) (ap (λ (x : List Arc). arcs_from n x) e) p.text;
      total = p.total ∙ ap (λ (x : List Arc). n + length x) e;
      few = omega (arith, p.few);
    }

-- an arc of either direction
pub arc_by : {k at r : ℕ} {b c : Bool} {l l' : List ℕ} (i t p : ℕ) → b ≡ c → Fit k l l' at (arc_piece i (arc_of t c p)) r → Fit k l l' at (arc_piece i (arc_of t b p)) r
arc_by {k} {at} {r} {b} {c} {l} {l'} i t p e q = subst (λ x. Fit k l l' at (arc_piece i (arc_of t x p)) r) (sym e) q

-- an arc where it is wanted
module _ (n t p : ℕ) (post : Bool) where
  abbrev here : Bool → List Arc
  here b = cond b (arc_of t post p ∷ []) []

  -- the text of one arc
  first : arc_piece n (arc_of t post p) ≡ arcs_from n (arc_of t post p ∷ [])
  unfolding arcs_from
  first = ap (λ (k : ℕ). arc_piece k (arc_of t post p)) (sym (add-zero n))

  pub arc_in : {b : Bool} {l l' : List ℕ} {at r : ℕ} → b ≡ true → Fit 43 l l' at (arc_piece n (arc_of t post p)) r
      → FitArcs 1 l l' at n (arc_where b t post p) r (n + 1)
  unfolding arc_where
  arc_in {b} {l} {l'} {at} {r} e q = recast_arcs {a = here true} (omega arith) (ap here (sym e)) one
    where
      one : FitArcs 1 l l' at n (here true) r (n + 1)
      one = record { text = fit_recast (omega arith) first q; total = refl; few = omega arith }

  pub arc_out : {b : Bool} {l : List ℕ} {at : ℕ} → at ≤ length l → b ≡ false → FitArcs 1 l l at n (arc_where b t post p) at n
  unfolding arc_where
  arc_out {b} {l} {at} h e = recast_arcs (omega arith) (ap here (sym e)) (no_arcs l at n h)

-- ---- a set of places, of which `rest` is what is left from place p on

pub rest_more : (s p rest : ℕ) → rest ≡ s / 2 ^ p → rest / 2 ≡ s / 2 ^ (p + 1)
rest_more s p rest e = ap (λ (x : ℕ). x / 2) e ∙ shr-shr s p 1

pub rest_gap : (s p rest : ℕ) → rest ≡ s / 2 ^ p → rest / 256 ≡ s / 2 ^ (p + 8)
rest_gap s p rest e = ap (λ (x : ℕ). x / 256) e ∙ shr-shr s p 8

-- the code's test of both
pub gap_test : (n p places : ℕ) → (eqb (n % 256) 0 && leb (p + 8) places) ≡ true → (n % 256 ≡ 0) × (p + 8 ≤ places)
gap_test n p places e =
    (eqb-true (n % 256) 0 (and_left (eqb (n % 256) 0) (leb (p + 8) places) e), leb-true (p + 8) places (and_right (eqb (n % 256) 0) (leb (p + 8) places) e))

-- the low digits of a number that 256 divides
low : (n j : ℕ) → n % 256 ≡ 0 → j < 8 → n / 2 ^ j % 2 ≡ 0
low n zero e h = omega arith
low n (suc zero) e h = omega arith
low n (suc (suc zero)) e h = omega arith
low n (suc (suc (suc zero))) e h = omega arith
low n (suc (suc (suc (suc zero)))) e h = omega arith
low n (suc (suc (suc (suc (suc zero))))) e h = omega arith
low n (suc (suc (suc (suc (suc (suc zero)))))) e h = omega arith
low n (suc (suc (suc (suc (suc (suc (suc zero))))))) e h = omega arith
low n (suc (suc (suc (suc (suc (suc (suc (suc j)))))))) e h = absurd (omega arith)

module _ (s t : ℕ) (post : Bool) where
  -- one place more
  pub by_more : (p rest : ℕ) → rest ≡ s / 2 ^ p → arc_where (eqb (rest % 2) 1) t post p ++ arcs_by s t post p ≡ arcs_by s t post (p + 1)
  unfolding arc_where arcs_by member
  by_more p rest e =
      by (eqb (rest % 2) 1)
      ∙ ap (λ (x : ℕ). cond (eqb (x % 2) 1) (arc_of t post p ∷ arcs_by s t post p) (arcs_by s t post p)) e
      ∙ ap (λ (k : ℕ). arcs_by s t post k) (sym (add-one p))
    where
      by : (b : Bool) → cond b (arc_of t post p ∷ []) [] ++ arcs_by s t post p ≡ cond b (arc_of t post p ∷ arcs_by s t post p) (arcs_by s t post p)
      by true = refl
      by false = refl

  -- where nothing is left, no place more has an arc
  past : (p k : ℕ) → s / 2 ^ p ≡ 0 → arcs_by s t post (p + k) ≡ arcs_by s t post p
  unfolding arcs_by member
  past p zero e = ap (λ (x : ℕ). arcs_by s t post x) (add-zero p)
  past p (suc k) e =
      ap (λ (x : ℕ). arcs_by s t post x) (add-suc p k)
      ∙ ap (λ (x : ℕ). cond (eqb (x % 2) 1) (arc_of t post (p + k) ∷ arcs_by s t post (p + k)) (arcs_by s t post (p + k)))
      (sym (shr-shr s p k) ∙ ap (λ (x : ℕ). x / 2 ^ k) e ∙ zero-div (2 ^ k))
      ∙ past p k e

  -- where the next places are not in the set, they have no arc
  gap : (p k rest : ℕ) → rest ≡ s / 2 ^ p → ((j : ℕ) → j < k → rest / 2 ^ j % 2 ≡ 0) → arcs_by s t post (p + k) ≡ arcs_by s t post p
  unfolding arcs_by member
  gap p zero rest e h = ap (λ (x : ℕ). arcs_by s t post x) (add-zero p)
  gap p (suc k) rest e h =
      ap (λ (x : ℕ). arcs_by s t post x) (add-suc p k)
      ∙ ap (λ (x : ℕ). cond (eqb x 1) (arc_of t post (p + k) ∷ arcs_by s t post (p + k)) (arcs_by s t post (p + k)))
      (ap (λ (x : ℕ). x % 2) (sym (shr-shr s p k) ∙ ap (λ (x : ℕ). x / 2 ^ k) (sym e)) ∙ h k (le_refl _))
      ∙ gap p k rest e (λ j l. h j (omega arith))

  pub by_gap : (p rest : ℕ) → rest ≡ s / 2 ^ p → rest % 256 ≡ 0 → arcs_by s t post p ≡ arcs_by s t post (p + 8)
  by_gap p rest e z = sym (gap p 8 rest e (λ j h. low rest j z h))

  pub by_all : (p n rest : ℕ) → rest ≡ s / 2 ^ p → rest ≡ 0 → p ≤ n → arcs_by s t post p ≡ arcs_by s t post n
  by_all p n rest e z h =
      let d : p + (n - p) ≡ n = omega arith in
      sym (past p (n - p) (sym e ∙ z)) ∙ ap (λ (x : ℕ). arcs_by s t post x) d

-- ---- a table's transitions

pub table_more : (b : List ℕ) (n t pre post : ℕ) → pre ≡ pre_at b t → post ≡ post_at b t
    → arcs_at pre post t n ++ table_arcs b n t ≡ table_arcs b n (t + 1)
unfolding table_arcs
table_more b n t pre post p q =
    ap₂ (λ (x y : ℕ). arcs_at x y t n ++ table_arcs b n t) p q ∙ ap (λ (k : ℕ). table_arcs b n k) (sym (add-one t))

-- they are the net's
pub table-arcs : (b : List ℕ) (places n : ℕ) → table_sized b ≡ true → n ≤ transitions b → table_arcs b places n ≡ net_arcs (net_of places b) n
unfolding table_arcs net_arcs net_of
table-arcs b places zero s h = refl
table-arcs b places (suc t) s h =
    append_assoc (arcs_by (post_at b t) t true places) (arcs_by (pre_at b t) t false places) (table_arcs b places t)
    ∙ ap₂ (λ (x : ℕ) (l : List Arc). arcs_by (post_at b t) t true places ++ (arcs_by x t false places ++ l)) (sym (decoded_pre places b s t h))
    (table-arcs b places t s (omega arith))
    ∙ ap (λ (x : ℕ). arcs_by x t true places ++ (arcs_by (pre_of (net_of places b) t) t false places ++ net_arcs (net_of places b) t))
    (sym (decoded_post places b s t h))
