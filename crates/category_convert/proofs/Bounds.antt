-- A binary search among ascending actions, and what the record that it finds says of the others. Assumes nothing.
use mathlib.Core.Path.{◌≡◌, sym, ap, ◌∙◌, subst}
use mathlib.Core.Bool.{true, false}
use mathlib.Core.Logic.{⊎_elim}
use mathlib.Core.List.{List}
use Prim.Native.Nat.{ℕ, ◌+◌, ◌≤◌, ◌<◌}
use native.Mathlib.Nat.{eq-or-lt_of_le, le_antisymm}
use native.Mathlib.Omega.{arith}
use lib.Dec.{eqb}
use borrow.Author.Tests.{ne_eqb, eqb-true}
use Rattle.tables.specs.Lists.{first}
use Rattle.tables.proofs.Tests.{and_left}
use Rattle.tables.proofs.Entries.{at_first}
use Rattle.tables.proofs.Below.{lt_or_ge}
use Rattle.category.specs.Records.{count, action_at, kind_at, lender_at, has_action}
use Rattle.category.proofs.Ascent.{Rising}
use Rattle.category.proofs.Scan.{last_or_before}
use Rattle.category_borrowed.specs.Files.{borrows, lends_at, valid}
use Rattle.category_borrowed.specs.Lookup.{lender_for, source_at}
use Rattle.category_borrowed.proofs.Valid.{valid_rising, source_lender, source_inside}
use Rattle.category_convert.specs.Serving.{LowerBound}

-- of the first n records those before low have actions below a, and those from high on have not
pub record Narrowed (file : List ℕ) (a n low high : ℕ) : Type 0 where
  pub order : low ≤ high
  pub end : high ≤ n
  pub below : (k : ℕ) → k < low → action_at file k < a
  pub above : (k : ℕ) → high ≤ k → k < n → a ≤ action_at file k

pub narrowed_none : (file : List ℕ) (a n : ℕ) → Narrowed file a n 0 n
narrowed_none file a n =
    record { order = omega arith; end = omega arith; below = λ k l. absurd (omega arith); above = λ k l m. absurd (omega arith) }

module _ {file : List ℕ} {a n low high : ℕ} (r : Rising file n) (p : Narrowed file a n low high) where
  pub narrowed_low : (m : ℕ) → m < high → action_at file m < a → Narrowed file a n (m + 1) high
  narrowed_low m l e = record { order = omega arith; end = p.end; below = under; above = p.above }
    where
      under : (k : ℕ) → k < m + 1 → action_at file k < a
      under k q = ⊎_elim same less (last_or_before m k q)
        where
          same : k ≡ m → action_at file k < a
          same e' = subst (λ (x : ℕ). action_at file x < a) (sym e') e

          less : k < m → action_at file k < a
          less h = let s : action_at file k < action_at file m = r.rises k m h (omega (arith, p.end)) in omega arith

  pub narrowed_high : (m : ℕ) → low ≤ m → m < high → a ≤ action_at file m → Narrowed file a n low m
  narrowed_high m l h e = record { order = l; end = omega (arith, p.end); below = p.below; above = over }
    where
      over : (k : ℕ) → m ≤ k → k < n → a ≤ action_at file k
      over k q t = ⊎_elim same more (eq-or-lt_of_le q)
        where
          same : m ≡ k → a ≤ action_at file k
          same e' = subst (λ (x : ℕ). a ≤ action_at file x) e' e

          more : m < k → a ≤ action_at file k
          more g = let s : action_at file m < action_at file k = r.rises m k g t in omega arith

pub narrowed_done : {file : List ℕ} {a n low high : ℕ} → Narrowed file a n low high → high ≤ low → LowerBound file a n low
narrowed_done p l =
    record {
      end = omega (arith, p.order, p.end);
      below = p.below;
      above = λ k g h. p.above k (omega arith) h;
    }

-- another action does not lend
other : (file : List ℕ) (a k : ℕ) → (action_at file k ≡ a → ⊥) → lends_at file a k ≡ false
unfolding lends_at has_action
other file a k d = rw (ne_eqb (action_at file k) a d)

-- where the record that the search finds does not lend, none of the first n does
pub none_lends : {file : List ℕ} {a n r : ℕ} → Rising file n → LowerBound file a n r → (r < n → lends_at file a r ≡ false)
    → (k : ℕ) → k < n → lends_at file a k ≡ false
none_lends {file} {a} {n} {r} rise b h k l = ⊎_elim (λ q. other file a k (λ e. omega (arith, b.below k q))) from (lt_or_ge k r)
  where
    from : r ≤ k → lends_at file a k ≡ false
    from g = ⊎_elim same more (eq-or-lt_of_le g)
      where
        same : r ≡ k → lends_at file a k ≡ false
        same e = subst (λ (x : ℕ). lends_at file a x ≡ false) e (h (omega arith))

        more : r < k → lends_at file a k ≡ false
        more q = other file a k (λ e. omega (arith, rise.rises r k q l, b.above r (omega arith) (omega arith)))

-- where one of the first n lends, the search finds the lowest that does
bound_first : {file : List ℕ} {a n r : ℕ} → Rising file n → LowerBound file a n r → first (lends_at file a) n < n → r ≡ first (lends_at file a) n
unfolding lends_at has_action
bound_first {file} {a} {n} {r} rise b l = le_antisymm (⊎_elim before (λ q. q) (lt_or_ge q r)) (⊎_elim after (λ q. q) (lt_or_ge r q))
  where
    q : ℕ
    q = first (lends_at file a) n

    same : action_at file q ≡ a
    same = eqb-true (action_at file q) a (and_left _ (eqb (kind_at file q) 0) (at_first (lends_at file a) n l))

    before : q < r → r ≤ q
    before h = absurd (omega (arith, b.below q h, same))

    after : r < q → q ≤ r
    after h = absurd (omega (arith, rise.rises r q h l, b.above r (omega arith) (omega arith), same))

-- in a valid file that is the record whose text record i borrows
module _ (file : List ℕ) (i a r : ℕ) (v : valid file ≡ true) (l : i < count file) (b : borrows file i ≡ true) (e : a ≡ lender_at file i)
    (p : LowerBound file a (count file) r) where
  pub bound_source : r ≡ source_at file i
  unfolding lender_for
  bound_source = bound_first (valid_rising file v) p inside ∙ sym same
    where
      same : source_at file i ≡ lender_for file a
      same = source_lender file i b ∙ ap (lender_for file) (sym e)

      inside : lender_for file a < count file
      inside = subst (λ (x : ℕ). x < count file) same (source_inside file v i l)

  pub bound_inside : r < count file
  bound_inside = subst (λ (x : ℕ). x < count file) (sym bound_source) (source_inside file v i l)
