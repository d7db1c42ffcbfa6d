-- The marks of formula records: one more mark, the marks of a record's operands, and the pass from the asked record down. Assumes nothing.
use mathlib.Core.Path.{◌≡◌, refl, sym, ap, ap₂, ◌∙◌, subst}
use mathlib.Core.Bool.{Bool, true, false, ◌&&◌, ◌||◌}
use mathlib.Core.Logic.{◌⊎◌, inl, inr}
use mathlib.Core.List.{List}
use Prim.Native.Nat.{ℕ, zero, suc, ◌+◌, ◌-◌, ◌<◌}
use native.Mathlib.Omega.{arith}
use lib.ListN.{length, get_or, set, replicate, length-set, length-replicate}
use lib.Seq.{get_or-set_same, get_or-set_other}
use lib.Dec.{eqb}
use borrow.Author.Tests.{eqb-true, eqb-false, eq-eqb, ne_eqb}
use Rattle.tables.proofs.Tests.{passed}
use Rattle.pctl.specs.declared.FormulaRecord.{FormulaRecord}
use Rattle.pctl.specs.Table.{record_at, formulas, has_left, has_right}
use Rattle.compact_tables.specs.Reached.{names, known, reached}
use Rattle.compact.specs.Serving.{Formulas, Marks, Marked}
use Rattle.compact.proofs.Records.{few, left_few, right_few}

-- ---- one mark

-- one more mark, where `on`
mark_more : (p : ℕ → Bool) (on : Bool) (k : ℕ) {l : List Bool} {b : Bool} → Marks p l → k < 256 → b ≡ (get_or l k false || on)
    → Marks (λ j. p j || (on && eqb k j)) (set l k b)
mark_more p on k {l} {b} m h q =
    record { whole = length-set l k b ∙ m.whole; each = λ j i. by j i (passed (eqb k j)) }
  where
    some : (a o : Bool) → (a || o) ≡ (a || (o && true))
    some true o = refl
    some false true = refl
    some false false = refl

    none : (a o : Bool) → a ≡ (a || (o && false))
    none true o = refl
    none false true = refl
    none false false = refl

    in-list : k < length l
    in-list = subst (λ (n : ℕ). k < n) (sym m.whole) h

    by : (j : ℕ) → j < 256 → (eqb k j ≡ true) ⊎ (eqb k j ≡ false) → get_or (set l k b) j false ≡ (p j || (on && eqb k j))
    by j i (inl e) =
        let c : k ≡ j = eqb-true k j e in
        ap (λ (n : ℕ). get_or (set l k b) n false) (sym c)
        ∙ get_or-set_same l k b false in-list
        ∙ q
        ∙ ap (λ x. x || on) (m.each k h)
        ∙ some (p k) on
        ∙ ap₂ (λ (n : ℕ) x. p n || (on && x)) c (sym e)
    by j i (inr e) =
        get_or-set_other l k j b false (λ s. eqb-false k j e (sym s))
        ∙ m.each j i
        ∙ none (p j) on
        ∙ ap (λ x. p j || (on && x)) (sym e)

-- the same marks by another test
marks_as : {p q : ℕ → Bool} {l : List Bool} → Marks p l → ((k : ℕ) → k < 256 → p k ≡ q k) → Marks q l
marks_as m e = record { whole = m.whole; each = λ k h. m.each k h ∙ e k h }

-- ---- the operands of a record

module _ (F : List ℕ) (good : Formulas F) (i : ℕ) (h : i < formulas F) where
  spread : (x o a b c d : Bool) → ((x || ((o && a) && b)) || ((o && c) && d)) ≡ (x || (o && ((a && b) || (c && d))))
  spread true true a b c d = refl
  spread true false a b c d = refl
  spread false true a b c d = refl
  spread false false a b c d = refl

  -- the left one is marked, then the right one
  pub operands_marked : (l : List Bool) {r : FormulaRecord} {left right b₁ b₂ : Bool} → r ≡ record_at F i
      → left ≡ has_left r.operator → b₁ ≡ (get_or l r.left false || (get_or l i false && left))
      → right ≡ has_right r.operator → b₂ ≡ (get_or (set l r.left b₁) r.right false || (get_or l i false && right))
      → Marked F i l (set (set l r.left b₁) r.right b₂)
  unfolding Marked names record_at
  operands_marked l {r} {left} {right} e a b c d p m =
      marks_as
      (mark_more (λ j. p j || ((on && left) && eqb r.left j)) (on && right) r.right
      (mark_more p (on && left) r.left m (left_few F good i h e) b) (right_few F good i h e) d)
      (λ j _. spread (p j) on left (eqb r.left j) right (eqb r.right j) ∙ ap₂ (λ o n. p j || (o && n)) (m.each i (few F good i h)) (named j))
    where
      on : Bool
      on = get_or l i false

      named : (j : ℕ) → ((left && eqb r.left j) || (right && eqb r.right j)) ≡ names F i j
      named j =
          ap₂ (λ s t. (s && eqb r.left j) || (t && eqb r.right j)) a c
          ∙ ap (λ (x : FormulaRecord). (has_left x.operator && eqb x.left j) || (has_right x.operator && eqb x.right j)) e

-- ---- the pass

module _ (F : List ℕ) (f : ℕ) where
  -- record f is marked
  pub pass_start : f < 256 → {n : ℕ} → n ≡ 0 → Marks (known F f n) (set (replicate 256 false) f true)
  unfolding known
  pass_start h {n} z =
      subst (λ (j : ℕ). Marks (known F f j) (set (replicate 256 false) f true)) (sym z) (marks_as
      (mark_more (λ _. false) true f {l = replicate 256 false} (record { whole = length-replicate 256 false; each = λ k _. clear 256 k }) h
      (sym (or_true (get_or (replicate 256 false) f false))))
      (λ k _. by k (passed (eqb f k))))
    where
      clear : (n k : ℕ) → get_or (replicate n false) k false ≡ false
      clear zero k = refl
      clear (suc n) zero = refl
      clear (suc n) (suc k) = clear n k

      or_true : (a : Bool) → (a || true) ≡ true
      or_true true = refl
      or_true false = refl

      by : (k : ℕ) → (eqb f k ≡ true) ⊎ (eqb f k ≡ false) → eqb f k ≡ eqb k f
      by k (inl e) = let q : f ≡ k = eqb-true f k e in e ∙ sym (eq-eqb k f (sym q))
      by k (inr e) = e ∙ sym (ne_eqb k f (λ q. eqb-false f k e (sym q)))

  -- the operands of one more, record i
  pub pass_next : (n i : ℕ) {k : ℕ} → k ≡ suc n → i ≡ f - n → {l r : List Bool} → Marks (known F f n) l → Marked F i l r → Marks (known F f k) r
  unfolding Marked known
  pass_next n i q z {l} {r} e m =
      subst (λ (j : ℕ). Marks (known F f j) r) (sym q) (subst (λ (j : ℕ). Marked F j l r) z m (known F f n) e)

  -- all are looked at
  pub pass_done : (n : ℕ) {l : List Bool} → Marks (known F f n) l → n ≡ f + 1 → Marks (reached F f) l
  unfolding reached
  pass_done n {l} e q = let z : n ≡ suc f = omega arith in subst (λ (k : ℕ). Marks (known F f k) l) z e
