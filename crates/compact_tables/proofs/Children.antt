-- The children of a sequent, where formula numbers are replaced: they are the children replaced, and each of their formulas is the parent's or an
-- operand of it. For any two tables of formulas and any new numbers. Assumes nothing.
use mathlib.Core.Path.{◌≡◌, refl, sym, ap, ap₂, ◌∙◌, subst}
use mathlib.Core.Bool.{Bool, true, ◌&&◌}
use mathlib.Core.List.{List, [], ◌∷◌, ◌++◌, map}
use Prim.Native.Nat.{ℕ, zero, suc, ◌-◌, ◌<◌}
use native.Mathlib.Nat.{not-suc-le-zero, le_of_suc-le-suc}
use lib.Count.{ones}
use lib.ListN.{length, get_or}
use lib.Dec.{eqb}
use borrow.Author.Tests.{eqb-true}
use Rattle.tables.proofs.Tests.{and_left, and_right}
use Rattle.bitset.specs.Sets.{passing}
use Rattle.net.specs.declared.Net.{Net}
use Rattle.net.specs.Step.{action_of, enabled, fired, urgents}
use Rattle.pctl.specs.Table.{operator_at, left_at, right_at, action_at, has_left, has_right}
use Rattle.tableau.specs.declared.Sequent.{Sequent}
use Rattle.tableau.specs.declared.Row.{Row}
use Rattle.tableau.specs.declared.Head.{Head}
use Rattle.tableau.specs.declared.Tail.{Tail}
use Rattle.tableau.specs.declared.Head.TheVariants.{Nothing as no-head, Left, Right, Opposite, LeftAfter, Anchored, Outward, Return, Again, Loop}
use Rattle.tableau.specs.declared.Tail.TheVariants.{Nothing as no-tail, Left as then-left, Right as then-right, Same as then_same, SameAll, LeftAll}
use Rattle.tableau.specs.Rows.{row_of}
use Rattle.tableau.specs.Rules.{Choice, fits, named, clean, in_phase, same_after, next_of, next_named, Source, head_of, tail_of, children_of, source_at, children}
use Rattle.tableau.proofs.Operands.{head_left, head_right, tail_left, tail_right, Operands, operands}
use Rattle.compact_tables.specs.Tables.{sequent_by}

-- a row that is for a sequent has its operator
fits_operator : (R : Row) (F : List ℕ) (s : Sequent) → fits R F s ≡ true → R.operator ≡ operator_at F s.formula
unfolding fits
fits_operator R F s e =
    eqb-true R.operator (operator_at F s.formula)
    (and_right (R.known && eqb R.side s.side) _ (and_left (R.known && eqb R.side s.side && eqb R.operator (operator_at F s.formula)) _ e))

-- so the operands that its children go by are those of the sequent's formula
fits_operands : (rule : ℕ) (F : List ℕ) (s : Sequent) → fits (row_of rule) F s ≡ true → Operands (row_of rule).children (operator_at F s.formula)
fits_operands rule F s e = subst (Operands (row_of rule).children) (fits_operator (row_of rule) F s e) (operands rule)

-- ---- formulas of the children that pass a test

data Kept (p : ℕ → Bool) : List Sequent → Type 0 where
  none : Kept p []
  more : {s : Sequent} {l : List Sequent} → p s.formula ≡ true → Kept p l → Kept p (s ∷ l)

module _ (p : ℕ → Bool) where
  kept_append : {l m : List Sequent} → Kept p l → Kept p m → Kept p (l ++ m)
  kept_append none k = k
  kept_append (more e r) k = more e (kept_append r k)

  kept_map : (g : ℕ → Sequent) (l : List ℕ) → ((t : ℕ) → p (g t).formula ≡ true) → Kept p (map g l)
  kept_map g [] h = none
  kept_map g (t ∷ l) h = more (h t) (kept_map g l h)

  kept_at : {l : List Sequent} → Kept p l → (i : ℕ) → i < length l → (d : Sequent) → p (get_or l i d).formula ≡ true
  kept_at none i h d = absurd (not-suc-le-zero h)
  kept_at (more e r) zero h d = e
  kept_at (more e r) (suc i) h d = kept_at r i (le_of_suc-le-suc h) d

  module _ (o : Source) (own : p o.sequent.formula ≡ true) (own-after : p o.after.formula ≡ true) where
    head_kept : (h : Head) → (head_left h ≡ true → p o.left ≡ true) → (head_right h ≡ true → p o.right ≡ true) → Kept p (head_of h o)
    unfolding head_of
    head_kept no-head l r = none
    head_kept Left l r = more (l refl) none
    head_kept Right l r = more (r refl) none
    head_kept Opposite l r = more (l refl) none
    head_kept LeftAfter l r = more (l refl) none
    head_kept Anchored l r = more own none
    head_kept Outward l r = more own none
    head_kept Return l r = more own none
    head_kept Again l r = more own none
    head_kept Loop l r = more own none

    tail_kept : (h : Tail) → (tail_left h ≡ true → (p o.left ≡ true) × Kept p o.lefts) → (tail_right h ≡ true → p o.right ≡ true)
        → Kept p o.sames → Kept p (tail_of h o)
    unfolding tail_of
    tail_kept no-tail l r s = none
    tail_kept then-left l r s = more (l refl).0 none
    tail_kept then-right l r s = more (r refl) none
    tail_kept then_same l r s = more own-after none
    tail_kept SameAll l r s = s
    tail_kept LeftAll l r s = (l refl).1

-- the formula of each child of a sequent passes, where the sequent's does and its operands do
pub children_kept : (p : ℕ → Bool) (N : Net) (F : List ℕ) (rule : ℕ) (s : Sequent) (c : Choice) → fits (row_of rule) F s ≡ true
    → p s.formula ≡ true → (has_left (operator_at F s.formula) ≡ true → p (left_at F s.formula) ≡ true)
    → (has_right (operator_at F s.formula) ≡ true → p (right_at F s.formula) ≡ true)
    → (i : ℕ) → i < length (children N F (row_of rule) s c) → (d : Sequent) → p (get_or (children N F (row_of rule) s c) i d).formula ≡ true
unfolding children children_of source_at same_after
children_kept p N F rule s c e own left right =
    kept_at p
    (kept_append p (head_kept p o own own (row_of rule).children.head (λ h. left (has.head-left h)) (λ h. right (has.head-right h)))
    (tail_kept p o own own (row_of rule).children.tail
    (λ h. (left (has.tail-left h), kept_map p _ (next_named N F s) (λ t. left (has.tail-left h))))
    (λ h. right (has.tail-right h)) (kept_map p (same_after N s) (next_of N s) (λ t. own))))
  where
    o : Source
    o = source_at N F (row_of rule).side s c

    has : Operands (row_of rule).children (operator_at F s.formula)
    has = fits_operands rule F s e

-- ---- formula numbers replaced

module _ (r : ℕ → ℕ) where
  -- two sources, of which one has the new numbers
  record Replaced (o o' : Source) : Type 0 where
    side : o'.side ≡ o.side
    sequent : o'.sequent ≡ sequent_by r o.sequent
    after : o'.after ≡ sequent_by r o.after
    urgents : o'.urgents ≡ o.urgents
    sames : o'.sames ≡ map (sequent_by r) o.sames

  module _ (o o' : Source) (same : Replaced o o') where
    head_replaced : (h : Head) → (head_left h ≡ true → o'.left ≡ r o.left) → (head_right h ≡ true → o'.right ≡ r o.right)
        → head_of h o' ≡ map (sequent_by r) (head_of h o)
    unfolding head_of sequent_by
    head_replaced no-head l r = refl
    head_replaced Left l r = λ i. clean (same.side i) (l refl i) (same.sequent i).marking ∷ []
    head_replaced Right l r = λ i. clean (same.side i) (r refl i) (same.sequent i).marking ∷ []
    head_replaced Opposite l r = λ i. clean (1 - same.side i) (l refl i) (same.sequent i).marking ∷ []
    head_replaced LeftAfter l r = λ i. clean (same.side i) (l refl i) (same.after i).marking ∷ []
    head_replaced Anchored l r =
        λ i. in_phase 1 (same.sequent i).marking (same.urgents i) (ones (same.urgents i)) (same.sequent i) ∷ []
    head_replaced Outward l r =
        λ i. in_phase 2 (same.sequent i).anchor (same.sequent i).kept ((same.sequent i).round - 1) (same.sequent i) ∷ []
    head_replaced Return l r =
        λ i. in_phase 3 (same.sequent i).anchor (same.sequent i).kept (same.sequent i).round (same.sequent i) ∷ []
    head_replaced Again l r =
        λ i. in_phase 1 (same.sequent i).anchor (same.sequent i).kept (same.sequent i).round (same.sequent i) ∷ []
    head_replaced Loop l r = λ i. in_phase 4 (same.sequent i).marking (same.urgents i) (same.sequent i).round (same.sequent i) ∷ []

    tail_replaced : (h : Tail) → (tail_left h ≡ true → (o'.left ≡ r o.left) × (o'.lefts ≡ map (sequent_by r) o.lefts))
        → (tail_right h ≡ true → o'.right ≡ r o.right) → tail_of h o' ≡ map (sequent_by r) (tail_of h o)
    unfolding tail_of sequent_by
    tail_replaced no-tail l r = refl
    tail_replaced then-left l r = λ i. clean (same.side i) ((l refl).0 i) (same.sequent i).marking ∷ []
    tail_replaced then-right l r = λ i. clean (same.side i) (r refl i) (same.sequent i).marking ∷ []
    tail_replaced then_same l r = λ i. same.after i ∷ []
    tail_replaced SameAll l r = same.sames
    tail_replaced LeftAll l r = (l refl).1

  map-append : (l m : List Sequent) → map (sequent_by r) (l ++ m) ≡ map (sequent_by r) l ++ map (sequent_by r) m
  map-append [] m = refl
  map-append (s ∷ l) m = ap (λ x. sequent_by r s ∷ x) (map-append l m)

  map_twice : (g g' : ℕ → Sequent) (l : List ℕ) → ((t : ℕ) → g' t ≡ sequent_by r (g t)) → map g' l ≡ map (sequent_by r) (map g l)
  map_twice g g' [] h = refl
  map_twice g g' (t ∷ l) h = ap₂ ◌∷◌ (h t) (map_twice g g' l h)

  -- two tables of formulas: record r f of the second is record f of the first, with the new numbers of its operands
  pub record SameRecord (F F' : List ℕ) (f : ℕ) : Type 0 where
    pub operator : operator_at F' (r f) ≡ operator_at F f
    pub left : has_left (operator_at F f) ≡ true → left_at F' (r f) ≡ r (left_at F f)
    pub right : has_right (operator_at F f) ≡ true → right_at F' (r f) ≡ r (right_at F f)
    pub action : action_at F' (r f) ≡ action_at F f

  module _ (N : Net) (F F' : List ℕ) (s : Sequent) (e : SameRecord F F' s.formula) where
    -- the transitions with the action of the formula
    pub named_replaced : (t : ℕ) → named N F' (sequent_by r s) t ≡ named N F s t
    unfolding named sequent_by
    named_replaced t = ap (eqb (action_of N t)) e.action

    next_named_replaced : next_named N F' (sequent_by r s) ≡ next_named N F s
    unfolding next_named sequent_by
    next_named_replaced = λ i. passing (λ t. enabled N s.marking t && named_replaced t i) N.transitions

    source_replaced : (side : ℕ) (c : Choice) → Replaced (source_at N F side s c) (source_at N F' side (sequent_by r s) c)
    unfolding source_at sequent_by same_after next_of
    source_replaced side c =
        record {
          side = refl;
          sequent = refl;
          after = refl;
          urgents = refl;
          sames = map_twice (same_after N s) (same_after N (sequent_by r s)) (next_of N s) (λ t. refl);
        }

    lefts_replaced : (side : ℕ) (c : Choice) → left_at F' (r s.formula) ≡ r (left_at F s.formula)
        → (source_at N F' side (sequent_by r s) c).lefts ≡ map (sequent_by r) (source_at N F side s c).lefts
    unfolding source_at sequent_by
    lefts_replaced side c l =
        (λ i. map (λ t. clean side (l i) (fired N s.marking t)) (next_named_replaced i))
        ∙ map_twice (λ t. clean side (left_at F s.formula) (fired N s.marking t)) (λ t. clean side (r (left_at F s.formula)) (fired N s.marking t))
        (next_named N F s) (λ t. refl)

    -- the children of the sequent with the new number
    pub children_replaced : (rule : ℕ) (c : Choice) → fits (row_of rule) F s ≡ true
        → children N F' (row_of rule) (sequent_by r s) c ≡ map (sequent_by r) (children N F (row_of rule) s c)
    unfolding children children_of source_at sequent_by
    children_replaced rule c h =
        ap₂ ◌++◌
        (head_replaced o o' same (row_of rule).children.head (λ q. e.left (has.head-left q)) (λ q. e.right (has.head-right q)))
        (tail_replaced o o' same (row_of rule).children.tail
        (λ q. (e.left (has.tail-left q), lefts_replaced (row_of rule).side c (e.left (has.tail-left q))))
        (λ q. e.right (has.tail-right q)))
        ∙ sym (map-append (head_of (row_of rule).children.head o) (tail_of (row_of rule).children.tail o))
      where
        o : Source
        o = source_at N F (row_of rule).side s c

        o' : Source
        o' = source_at N F' (row_of rule).side (sequent_by r s) c

        same : Replaced o o'
        same = source_replaced (row_of rule).side c

        has : Operands (row_of rule).children (operator_at F s.formula)
        has = fits_operands rule F s h
