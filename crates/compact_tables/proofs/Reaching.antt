-- Which records are reached: the pass from the asked record down finds them all, and nothing else. Assumes nothing.
use mathlib.Core.Path.{◌≡◌, refl, sym, ap, ◌∙◌, subst}
use mathlib.Core.Bool.{true, ◌&&◌}
use mathlib.Core.Logic.{◌⊎◌, inl, inr}
use mathlib.Core.List.{List}
use Prim.Native.Nat.{ℕ, zero, suc, ◌+◌, ◌-◌, ◌≤◌, ◌<◌}
use native.Mathlib.Nat.{le_of_eq, add-suc, add-zero}
use native.Mathlib.Omega.{arith}
use lib.Dec.{eqb}
use borrow.Author.Tests.{eqb-true, eq-eqb}
use Rattle.tables.proofs.Tests.{and_left, and_right, and_intro, or_left, or_right, either}
use Rattle.pctl.specs.Table.{operator_at, left_at, right_at, formulas, has_left, has_right}
use Rattle.pctl.specs.Lower.{Lower}
use Rattle.pctl.proofs.Formulas.{left_lower, right_lower}
use Rattle.compact_tables.specs.Reached.{names, Reaches, known, reached}
use Rattle.compact_tables.specs.Reached.Reaches.{itself, operand}

-- ---- operands

pub names_left : (F : List ℕ) (g : ℕ) → has_left (operator_at F g) ≡ true → names F g (left_at F g) ≡ true
unfolding names
names_left F g h =
    or_left (has_left (operator_at F g) && eqb (left_at F g) (left_at F g)) _ (and_intro (has_left (operator_at F g)) _ h (eq-eqb (left_at F g) (left_at F g) refl))

pub names_right : (F : List ℕ) (g : ℕ) → has_right (operator_at F g) ≡ true → names F g (right_at F g) ≡ true
unfolding names
names_right F g h =
    or_right (has_left (operator_at F g) && eqb (left_at F g) (right_at F g)) _
    (and_intro (has_right (operator_at F g)) _ h (eq-eqb (right_at F g) (right_at F g) refl))

-- they are lower
names_lower : (F : List ℕ) → Lower F → (g k : ℕ) → g < formulas F → names F g k ≡ true → k < g
unfolding names
names_lower F low g k h e =
    by (either (has_left (operator_at F g) && eqb (left_at F g) k) (has_right (operator_at F g) && eqb (right_at F g) k) e)
  where
    by : ((has_left (operator_at F g) && eqb (left_at F g) k) ≡ true) ⊎ ((has_right (operator_at F g) && eqb (right_at F g) k) ≡ true) → k < g
    by (inl p) =
        let q : left_at F g ≡ k = eqb-true _ _ (and_right (has_left (operator_at F g)) _ p) in
        let l : left_at F g < g = left_lower F low g h (and_left (has_left (operator_at F g)) _ p) in
        omega arith
    by (inr p) =
        let q : right_at F g ≡ k = eqb-true _ _ (and_right (has_right (operator_at F g)) _ p) in
        let l : right_at F g < g = right_lower F low g h (and_left (has_right (operator_at F g)) _ p) in
        omega arith

-- ---- the pass

-- what is known stays known
known_later : (F : List ℕ) (f m n k : ℕ) → known F f n k ≡ true → known F f (n + m) k ≡ true
unfolding known
known_later F f zero n k e = ap (λ (x : ℕ). known F f x k) (add-zero n) ∙ e
known_later F f (suc m) n k e = ap (λ (x : ℕ). known F f x k) (add-suc n m) ∙ or_left (known F f (n + m) k) _ (known_later F f m n k e)

-- whatever is found is reached
known_reaches : (F : List ℕ) (f n k : ℕ) → known F f n k ≡ true → Reaches F f k
unfolding known
known_reaches F f zero k e = subst (Reaches F f) (sym (eqb-true k f e)) itself
known_reaches F f (suc n) k e = by (known_reaches F f n) (either (known F f n k) (known F f n (f - n) && names F (f - n) k) e)
  where
    by : ((j : ℕ) → known F f n j ≡ true → Reaches F f j) → (known F f n k ≡ true) ⊎ ((known F f n (f - n) && names F (f - n) k) ≡ true) → Reaches F f k
    by ih (inl p) = ih k p
    by ih (inr p) =
        operand (ih (f - n) (and_left (known F f n (f - n)) (names F (f - n) k) p)) (and_right (known F f n (f - n)) (names F (f - n) k) p)

pub reached_reaches : (F : List ℕ) (f k : ℕ) → reached F f k ≡ true → Reaches F f k
unfolding reached
reached_reaches F f k e = known_reaches F f (suc f) k e

pub reached_self : (F : List ℕ) (f : ℕ) → reached F f f ≡ true
unfolding reached known
reached_self F f = ap (λ (x : ℕ). known F f x f) (let z : suc f ≡ 0 + suc f = omega arith in z) ∙ known_later F f (suc f) 0 f (eq-eqb f f refl)

module _ (F : List ℕ) (low : Lower F) (f : ℕ) (inside : f < formulas F) where
  -- nothing above f is reached
  known_most : (n k : ℕ) → known F f n k ≡ true → k ≤ f
  unfolding known
  known_most zero k e = le_of_eq (eqb-true k f e)
  known_most (suc n) k e = by (known_most n) (either (known F f n k) (known F f n (f - n) && names F (f - n) k) e)
    where
      by : ((j : ℕ) → known F f n j ≡ true → j ≤ f) → (known F f n k ≡ true) ⊎ ((known F f n (f - n) && names F (f - n) k) ≡ true) → k ≤ f
      by ih (inl p) = ih k p
      by ih (inr p) =
          let l : k < f - n = names_lower F low (f - n) k (omega arith) (and_right (known F f n (f - n)) (names F (f - n) k) p) in
          omega arith

  pub reached_most : (k : ℕ) → reached F f k ≡ true → k ≤ f
  unfolding reached
  reached_most k e = known_most (suc f) k e

  -- once the pass has come down to record g, nothing more is found of g
  settled : (m n g : ℕ) → f ≤ n + g → known F f (n + m) g ≡ true → known F f n g ≡ true
  unfolding known
  settled zero n g h e = ap (λ (x : ℕ). known F f x g) (sym (add-zero n)) ∙ e
  settled (suc m) n g h e =
      by (settled m n g h)
      (either (known F f (n + m) g) (known F f (n + m) (f - (n + m)) && names F (f - (n + m)) g) (ap (λ (x : ℕ). known F f x g) (sym (add-suc n m)) ∙ e))
    where
      by : (known F f (n + m) g ≡ true → known F f n g ≡ true)
          → (known F f (n + m) g ≡ true) ⊎ ((known F f (n + m) (f - (n + m)) && names F (f - (n + m)) g) ≡ true) → known F f n g ≡ true
      by ih (inl p) = ih p
      by ih (inr p) =
          let l : g < f - (n + m) = names_lower F low (f - (n + m)) g (omega arith) (and_right (known F f (n + m) (f - (n + m))) (names F (f - (n + m)) g) p) in
          absurd (omega arith)

  -- the operands of what is found are found
  pub reached_operand : (g k : ℕ) → reached F f g ≡ true → names F g k ≡ true → reached F f k ≡ true
  unfolding reached known
  reached_operand g k e h =
      let l : g ≤ f = known_most (suc f) g e in
      let n : f - g + suc g ≡ suc f = omega arith in
      let here : f - (f - g) ≡ g = omega arith in
      let at : known F f (f - g) g ≡ true = settled (suc g) (f - g) g (omega arith) (ap (λ (x : ℕ). known F f x g) n ∙ e) in
      let next : known F f (suc (f - g)) k ≡ true =
      or_right (known F f (f - g) k) _
      (ap (λ (x : ℕ). known F f (f - g) x && names F x k) here ∙ and_intro (known F f (f - g) g) (names F g k) at h) in
      let rest : suc (f - g) + g ≡ suc f = omega arith in
      ap (λ (x : ℕ). known F f x k) (sym rest) ∙ known_later F f g (suc (f - g)) k next

  -- whatever is reached is found
  pub reaches_reached : (k : ℕ) → Reaches F f k → reached F f k ≡ true
  reaches_reached k itself = reached_self F f
  reaches_reached k (operand {g} r e) = reached_operand g k (reaches_reached g r) e
