-- Every node of a chosen tree follows its rule, whatever its trail. Assumes nothing.
use mathlib.Core.Path.{◌≡◌, refl, sym, ap, ◌∙◌, subst}
use mathlib.Core.Bool.{Bool, true, false, cond, ◌&&◌, ◌||◌, true≢false}
use mathlib.Core.List.{List, [], ◌∷◌, map}
use Prim.Native.Nat.{ℕ, zero, suc, ◌+◌, ◌≤◌, ◌<◌}
use native.Mathlib.Nat.{not-suc-le-zero}
use native.Mathlib.Omega.{arith}
use lib.ListN.{length}
use lib.Dec.{eqb}
use borrow.Author.Tests.{eq-eqb, le-leb, lt-ltb, not-true, not-false}
use Rattle.bitset.specs.Sets.{within, passing}
use Rattle.tables.proofs.Tests.{and_left, and_right, and_intro}
use Rattle.net.specs.declared.Net.{Net}
use Rattle.net.specs.Step.{action_of, post_of, pre_of, enabled, fired}
use Rattle.net.proofs.Independence.{moved_within}
use Rattle.net.proofs.Urgent.{enabled_below}
use Rattle.pctl.specs.Table.{operator_at, left_at, right_at, action_at, formulas, has_left, has_right}
use Rattle.pctl.specs.Lower.{Lower}
use Rattle.pctl.specs.Formula.{read_to, formula}
use Rattle.pctl.proofs.Formulas.{left_lower, right_lower}
use Rattle.tableau.specs.declared.Sequent.{Sequent}
use Rattle.tableau.specs.Rows.{row_of}
use Rattle.tableau.specs.Rules.{fits, chooses, named, condition, clean, same_after, next_named, children, in_range}
use Rattle.tableau.proofs.Ranges.{carried_zero}
use Rattle.tree_shape.specs.Evaluation.{until_free, offered, evaluated}
use Rattle.tree_shape.specs.Trees.{Trees, roots}
use Rattle.tree_shape.specs.Trees.Trees.{none, node}
use Rattle.tree_shape.specs.Chosen.{forest, lowest, holdsBy, failsBy, claimBy, treeTo, tree_of, truth_of, chosen}
use Rattle.tree_shape.specs.Serving.{passing_from}
use Rattle.tree_shape.proofs.Steps.{does, passing-from, passing_length, roots_forest, chosen_true, chosen_false, tree_holds, tree-fails, truth_0, truth_1, truth_2, lowest_does, none_does, free_operator, free_left, free_right, roots_tree}

-- the sequents of the roots
unfoldable pub sequents : Trees → List Sequent
sequents none = []
sequents (node s rule t kids beside) = s ∷ sequents beside

pub sequents_length : (T : Trees) → length (sequents T) ≡ roots T
unfolding sequents roots
sequents_length none = refl
sequents_length (node s rule t kids beside) = ap suc (sequents_length beside)

-- a record's tree has the record's sequent
module _ (N : Net) (F : List ℕ) (T : (side f m : ℕ) → Trees → Trees) (U : (f m : ℕ) → Bool) (f m : ℕ) (b : Trees) where
  holds_sequents : (op : ℕ) → sequents (holdsBy N F T U f m op b) ≡ clean 0 f m ∷ sequents b
  unfolding holdsBy sequents
  holds_sequents zero = refl
  holds_sequents (suc zero) = refl
  holds_sequents (suc (suc zero)) = refl
  holds_sequents (suc (suc (suc n))) = refl

  fails_sequents : (op : ℕ) → sequents (failsBy N F T U f m op b) ≡ clean 1 f m ∷ sequents b
  unfolding failsBy sequents
  fails_sequents zero = refl
  fails_sequents (suc zero) = refl
  fails_sequents (suc (suc zero)) = pick (U (left_at F f) m)
    where
      pick : (c : Bool)
          → sequents (cond c (node (clean 1 f m) 23 0 (T 1 (right_at F f) m none) b) (node (clean 1 f m) 22 0 (T 1 (left_at F f) m none) b))
          ≡ clean 1 f m ∷ sequents b
      pick true = refl
      pick false = refl
  fails_sequents (suc (suc (suc n))) = refl

module _ (N : Net) (F : List ℕ) (f m : ℕ) (b : Trees) where
  pub sequents_holds : sequents (tree_of N F 0 f m b) ≡ clean 0 f m ∷ sequents b
  unfolding tree_of claimBy
  sequents_holds = holds_sequents N F (treeTo N F f) (λ g x. evaluated N (read_to f F g) x) f m b (operator_at F f)

  pub sequents_fails : sequents (tree_of N F 1 f m b) ≡ clean 1 f m ∷ sequents b
  unfolding tree_of claimBy
  sequents_fails = fails_sequents N F (treeTo N F f) (λ g x. evaluated N (read_to f F g) x) f m b (operator_at F f)

-- trees side by side that fail have their sequents
sequents_forest : (N : Net) (F : List ℕ) (g : ℕ) (h : ℕ → ℕ) (l : List ℕ)
    → sequents (forest (λ t. tree_of N F 1 g (h t)) l) ≡ map (λ t. clean 1 g (h t)) l
unfolding forest sequents
sequents_forest N F g h [] = refl
sequents_forest N F g h (t ∷ ts) =
    sequents_fails N F g (h t) (forest (λ t. tree_of N F 1 g (h t)) ts) ∙ ap (λ l. clean 1 g (h t) ∷ l) (sequents_forest N F g h ts)

module _ (N : Net) (F : List ℕ) where
  -- a node with a clean sequent follows its rule, and its children are the sequents below it
  pub record Follows (side f m rule t : ℕ) (kids : Trees) : Type 0 where
    pub marking : within N.places m ≡ true
    pub formula_in : f < formulas F
    pub side_low : side ≤ 1
    pub chosen_in : t < N.transitions
    pub rule_low : rule < 256
    pub idle : (chooses (row_of rule).asks.choice || eqb t 0) ≡ true
    pub fitting : fits (row_of rule) F (clean side f m) ≡ true
    pub met : (on : Bool) → condition N F (row_of rule) (clean side f m) (record { transition = t }) on ≡ true
    pub below : children N F (row_of rule) (clean side f m) (record { transition = t }) ≡ sequents kids
    pub few : roots kids ≤ 64

  -- each node of the trees does
  pub data Right : Trees → Type 0 where
    no_tree : Right none
    tree : {side f m rule t : ℕ} {kids beside : Trees} → Follows side f m rule t kids → Right kids → Right beside → Right (node (clean side f m) rule t kids beside)

  -- such a node is in range
  pub in-range : {side f m rule t : ℕ} {kids : Trees} → Follows side f m rule t kids
      → in_range N F (row_of rule) (clean side f m) (record { transition = t }) ≡ true
  unfolding in_range
  in-range {side} {f} {m} {rule} {t} w =
      and_intro _ _
      (and_intro _ _
      (and_intro _ _
      (and_intro _ _ (and_intro _ _ w.marking (lt-ltb t N.transitions w.chosen_in)) (lt-ltb f (formulas F) w.formula_in))
      (le-leb side 1 w.side_low))
      w.idle)
      (sym (carried_zero N.places N.transitions (clean side f m) refl))

-- ---- the tables that the check admits

-- what is asked of net and formulas
pub record Admits (N : Net) (F : List ℕ) : Type 0 where
  pub lower : Lower F
  pub some : 0 < N.transitions
  pub few : N.transitions ≤ 64
  pub posts : (t : ℕ) → t < N.transitions → within N.places (post_of N t) ≡ true

module _ (N : Net) (F : List ℕ) (a : Admits N F) (f : ℕ) (inside : f < formulas F) (m : ℕ) (w : within N.places m ≡ true) where
  -- ---- what each rule asks and gives

  fits_at : (rule side op : ℕ) → (row_of rule).known ≡ true → (row_of rule).side ≡ side → (row_of rule).operator ≡ op → (row_of rule).phase ≡ 0
      → operator_at F f ≡ op → fits (row_of rule) F (clean side f m) ≡ true
  unfolding fits
  fits_at rule side op k s o p e =
      and_intro _ _ (and_intro _ _ (and_intro _ _ k (eq-eqb _ _ s)) (eq-eqb _ _ (o ∙ sym e))) (eq-eqb _ _ p)

  -- how many trees stand below a node with one or two children
  one_below : (side g x : ℕ) → roots (tree_of N F side g x none) ≤ 64
  unfolding roots
  one_below side g x = let e : roots (tree_of N F side g x none) ≡ 1 = roots_tree N F side g x none in omega arith

  two_below : (g h : ℕ) → roots (tree_of N F 0 g m (tree_of N F 0 h m none)) ≤ 64
  unfolding roots
  two_below g h =
      let e : roots (tree_of N F 0 h m none) ≡ 1 = roots_tree N F 0 h m none in
      let r : roots (tree_of N F 0 g m (tree_of N F 0 h m none)) ≡ suc (roots (tree_of N F 0 h m none)) = roots_tree N F 0 g m (tree_of N F 0 h m none) in
      omega arith

  -- a node that follows a rule of its side and operator
  following : (rule side op t : ℕ) (kids : Trees) → (row_of rule).known ≡ true → (row_of rule).side ≡ side → (row_of rule).operator ≡ op → (row_of rule).phase ≡ 0
      → operator_at F f ≡ op → side ≤ 1 → rule < 256 → t < N.transitions → (chooses (row_of rule).asks.choice || eqb t 0) ≡ true
      → ((on : Bool) → condition N F (row_of rule) (clean side f m) (record { transition = t }) on ≡ true)
      → children N F (row_of rule) (clean side f m) (record { transition = t }) ≡ sequents kids → roots kids ≤ 64 → Follows N F side f m rule t kids
  following rule side op t kids k s o p e low known l idle met below few =
      record {
        marking = w;
        formula_in = inside;
        side_low = low;
        chosen_in = l;
        rule_low = known;
        idle = idle;
        fitting = fits_at rule side op k s o p e;
        met = met;
        below = below;
        few = few;
      }

  rule_15 : operator_at F f ≡ 0 → Follows N F 0 f m 15 0 none
  unfolding row_of condition children sequents roots
  rule_15 e = following 15 0 0 0 none refl refl refl refl e (omega arith) (omega arith) a.some refl (λ on. refl) refl (omega arith)

  rule_16 : operator_at F f ≡ 1 → Follows N F 0 f m 16 0 (tree_of N F 1 (left_at F f) m none)
  unfolding row_of condition children sequents
  rule_16 e =
      following 16 0 1 0 _ refl refl refl refl e (omega arith) (omega arith) a.some refl (λ on. refl) (sym (sequents_fails N F (left_at F f) m none))
      (one_below 1 (left_at F f) m)

  rule_1 : operator_at F f ≡ 2 → Follows N F 0 f m 1 0 (tree_of N F 0 (left_at F f) m (tree_of N F 0 (right_at F f) m none))
  unfolding row_of condition children sequents
  rule_1 e =
      following 1 0 2 0 _ refl refl refl refl e (omega arith) (omega arith) a.some refl (λ on. refl)
      (sym
      (sequents_holds N F (left_at F f) m (tree_of N F 0 (right_at F f) m none)
      ∙ ap (λ l. clean 0 (left_at F f) m ∷ l) (sequents_holds N F (right_at F f) m none)))
      (two_below (left_at F f) (right_at F f))

  rule_2 : operator_at F f ≡ 3 → (t : ℕ) → t < N.transitions → offered N (action_at F f) m t ≡ true
      → Follows N F 0 f m 2 t (tree_of N F 0 (left_at F f) (fired N m t) none)
  unfolding row_of condition children sequents named offered same_after
  rule_2 e t l o =
      following 2 0 3 t _ refl refl refl refl e (omega arith) (omega arith) l refl (λ on. ap (λ b. b && true && true && true) o)
      (sym (sequents_holds N F (left_at F f) (fired N m t) none)) (one_below 0 (left_at F f) (fired N m t))

  rule_21 : operator_at F f ≡ 1 → Follows N F 1 f m 21 0 (tree_of N F 0 (left_at F f) m none)
  unfolding row_of condition children sequents
  rule_21 e =
      following 21 1 1 0 _ refl refl refl refl e (omega arith) (omega arith) a.some refl (λ on. refl) (sym (sequents_holds N F (left_at F f) m none))
      (one_below 0 (left_at F f) m)

  rule_22 : operator_at F f ≡ 2 → Follows N F 1 f m 22 0 (tree_of N F 1 (left_at F f) m none)
  unfolding row_of condition children sequents
  rule_22 e =
      following 22 1 2 0 _ refl refl refl refl e (omega arith) (omega arith) a.some refl (λ on. refl) (sym (sequents_fails N F (left_at F f) m none))
      (one_below 1 (left_at F f) m)

  rule_23 : operator_at F f ≡ 2 → Follows N F 1 f m 23 0 (tree_of N F 1 (right_at F f) m none)
  unfolding row_of condition children sequents
  rule_23 e =
      following 23 1 2 0 _ refl refl refl refl e (omega arith) (omega arith) a.some refl (λ on. refl) (sym (sequents_fails N F (right_at F f) m none))
      (one_below 1 (right_at F f) m)

  rule_24 : operator_at F f ≡ 3
      → Follows N F 1 f m 24 0 (forest (λ t. tree_of N F 1 (left_at F f) (fired N m t)) (passing (offered N (action_at F f) m) N.transitions))
  unfolding row_of condition children next_named named offered
  rule_24 e =
      let ts : List ℕ = passing (offered N (action_at F f) m) N.transitions in
      let r = roots_forest N F (left_at F f) (fired N m) ts in
      let l = passing_length (offered N (action_at F f) m) N.transitions in
      let h = a.few in
      following 24 1 3 0 _ refl refl refl refl e (omega arith) (omega arith) a.some refl (λ on. refl)
      (sym (sequents_forest N F (left_at F f) (fired N m) ts)) (omega arith)

  -- ---- the tree of a record, where the trees of lower records are right

  -- the marking after an offered transition is within the places
  after_within : (t : ℕ) → t < N.transitions → within N.places (fired N m t) ≡ true
  unfolding fired
  after_within t l = moved_within N.places (pre_of N t) (post_of N t) m (a.posts t l) w

-- the tree of the side that is true is right, with right trees beside it
RightAt : Net → List ℕ → (f m : ℕ) → Type 0
RightAt N F f m =
    (truth_of N F f m ≡ true → (b : Trees) → Right N F b → Right N F (tree_of N F 0 f m b))
    × (truth_of N F f m ≡ false → (b : Trees) → Right N F b → Right N F (tree_of N F 1 f m b))

forest_right : (N : Net) (F : List ℕ) (g : ℕ) (h : ℕ → ℕ) (f : ℕ → Bool)
    → ((t : ℕ) → f t ≡ true → (b : Trees) → Right N F b → Right N F (tree_of N F 1 g (h t) b))
    → (count n : ℕ) → Right N F (forest (λ t. tree_of N F 1 g (h t)) (passing_from f count n))
unfolding forest passing_from
forest_right N F g h f r zero n = Right.no_tree
forest_right N F g h f r (suc count) n = by (f n) refl (forest_right N F g h f r count (n + 1))
  where
    by : (c : Bool) → f n ≡ c → Right N F (forest (λ t. tree_of N F 1 g (h t)) (passing_from f count (n + 1)))
        → Right N F (forest (λ t. tree_of N F 1 g (h t)) (cond c (n ∷ passing_from f count (n + 1)) (passing_from f count (n + 1))))
    by true e ih = r n e _ ih
    by false e ih = ih

module _ (N : Net) (F : List ℕ) (a : Admits N F) where
  Below : ℕ → Type 0
  Below f = (g : ℕ) → g < f → until_free (formula F g) ≡ true → (m : ℕ) → within N.places m ≡ true → RightAt N F g m

  module _ (f : ℕ) (inside : f < formulas F) (free : until_free (formula F f) ≡ true) (below : Below f) (m : ℕ) (w : within N.places m ≡ true) where
    low : Lower F
    low = a.lower

    -- the operands
    at_left : (op : ℕ) → operator_at F f ≡ suc op → (x : ℕ) → within N.places x ≡ true → RightAt N F (left_at F f) x
    unfolding Below has_left low
    at_left op e x v =
        below (left_at F f) (left_lower F low f inside (ap has_left e ∙ le-leb 1 (suc op) (omega arith)))
        (free_left F low f inside free (λ z. let q : ◌≡◌ {A = ℕ} (suc op) 0 = sym e ∙ z in omega arith)) x v

    at_right : operator_at F f ≡ 2 → RightAt N F (right_at F f) m
    unfolding Below has_right low
    at_right e = below (right_at F f) (right_lower F low f inside (ap has_right e)) (free_right F low f inside free e) m w

    does_both : (t : ℕ) → does N F f m t ≡ true → (offered N (action_at F f) m t && truth_of N F (left_at F f) (fired N m t)) ≡ true
    unfolding does
    does_both t d = d

    does_not : (t : ℕ) → does N F f m t ≡ false → (offered N (action_at F f) m t && truth_of N F (left_at F f) (fired N m t)) ≡ false
    unfolding does
    does_not t d = d

    offered_below : (t : ℕ) → offered N (action_at F f) m t ≡ true → t < N.transitions
    unfolding offered
    offered_below t o = enabled_below N m t (and_left (enabled N m t) (eqb (action_of N t) (action_at F f)) o)

    holds_right : truth_of N F f m ≡ true → (b : Trees) → Right N F b → Right N F (tree_of N F 0 f m b)
    unfolding low RightAt holdsBy
    holds_right h b r = subst (Right N F) (sym (tree_holds N F low f inside m b)) (by (operator_at F f) refl)
      where
        by : (op : ℕ) → operator_at F f ≡ op → Right N F (holdsBy N F (tree_of N F) (truth_of N F) f m op b)
        by zero e = Right.tree (rule_15 N F a f inside m w e) Right.no_tree r
        by (suc zero) e =
            Right.tree (rule_16 N F a f inside m w e)
            ((at_left 0 e m w).1 (not-true (truth_of N F (left_at F f) m) (sym (truth_1 N F low f inside m e) ∙ h)) none Right.no_tree) r
        by (suc (suc zero)) e =
            let both : (truth_of N F (left_at F f) m && truth_of N F (right_at F f) m) ≡ true = sym (truth_2 N F low f inside m e) ∙ h in
            Right.tree (rule_1 N F a f inside m w e)
            ((at_left 1 e m w).0 (and_left (truth_of N F (left_at F f) m) (truth_of N F (right_at F f) m) both) (tree_of N F 0 (right_at F f) m none)
            ((at_right e).0 (and_right (truth_of N F (left_at F f) m) (truth_of N F (right_at F f) m) both) none Right.no_tree))
            r
        by (suc (suc (suc zero))) e =
            let d = lowest_does N F low f inside m e h in
            let t : ℕ = lowest N F (truth_of N F) f m in
            Right.tree (rule_2 N F a f inside m w e t d.0 (and_left (offered N (action_at F f) m t) (truth_of N F (left_at F f) (fired N m t)) (does_both t d.1)))
            ((at_left 2 e (fired N m t) (after_within N F a f inside m w t d.0)).0
            (and_right (offered N (action_at F f) m t) (truth_of N F (left_at F f) (fired N m t)) (does_both t d.1)) none Right.no_tree)
            r
        by (suc (suc (suc (suc n)))) e = absurd (let l : operator_at F f ≤ 3 = free_operator F low f inside free in omega arith)

    fails_right : truth_of N F f m ≡ false → (b : Trees) → Right N F b → Right N F (tree_of N F 1 f m b)
    unfolding low RightAt failsBy
    fails_right h b r = subst (Right N F) (sym (tree-fails N F low f inside m b)) (by (operator_at F f) refl)
      where
        by : (op : ℕ) → operator_at F f ≡ op → Right N F (failsBy N F (tree_of N F) (truth_of N F) f m op b)
        by zero e = absurd (true≢false (sym (truth_0 N F low f inside m e) ∙ h))
        by (suc zero) e =
            Right.tree (rule_21 N F a f inside m w e)
            ((at_left 0 e m w).0 (not-false (truth_of N F (left_at F f) m) (sym (truth_1 N F low f inside m e) ∙ h)) none Right.no_tree) r
        by (suc (suc zero)) e = pick (truth_of N F (left_at F f) m) refl
          where
            pick : (c : Bool) → truth_of N F (left_at F f) m ≡ c
                → Right N F
                (cond c (node (clean 1 f m) 23 0 (tree_of N F 1 (right_at F f) m none) b) (node (clean 1 f m) 22 0 (tree_of N F 1 (left_at F f) m none) b))
            pick true l =
                Right.tree (rule_23 N F a f inside m w e)
                ((at_right e).1 (sym (ap (λ c. c && truth_of N F (right_at F f) m) l) ∙ sym (truth_2 N F low f inside m e) ∙ h) none Right.no_tree) r
            pick false l = Right.tree (rule_22 N F a f inside m w e) ((at_left 1 e m w).1 l none Right.no_tree) r
        by (suc (suc (suc zero))) e =
            Right.tree (rule_24 N F a f inside m w e)
            (subst (λ l. Right N F (forest (λ t. tree_of N F 1 (left_at F f) (fired N m t)) l)) (sym (passing-from (offered N (action_at F f) m) N.transitions))
            (forest_right N F (left_at F f) (fired N m) (offered N (action_at F f) m) each N.transitions 0))
            r
          where
            each : (t : ℕ) → offered N (action_at F f) m t ≡ true → (c : Trees) → Right N F c → Right N F (tree_of N F 1 (left_at F f) (fired N m t) c)
            each t o =
                (at_left 2 e (fired N m t) (after_within N F a f inside m w t (offered_below t o))).1
                (sym (ap (λ c. c && truth_of N F (left_at F f) (fired N m t)) o) ∙ does_not t (none_does N F low f inside m e h t))
        by (suc (suc (suc (suc n)))) e = absurd (let l : operator_at F f ≤ 3 = free_operator F low f inside free in omega arith)

  -- every record, by induction on a number above it
  right_below : (n f : ℕ) → f < n → f < formulas F → until_free (formula F f) ≡ true → (m : ℕ) → within N.places m ≡ true → RightAt N F f m
  unfolding RightAt Below
  right_below zero f l h u m w = absurd (not-suc-le-zero l)
  right_below (suc n) f l h u m w =
      let below : Below f = under (right_below n) in (holds_right f h u below m w, fails_right f h u below m w)
    where
      under : ((f : ℕ) → f < n → f < formulas F → until_free (formula F f) ≡ true → (m : ℕ) → within N.places m ≡ true → RightAt N F f m) → Below f
      under ih g k = ih g (omega arith) (omega arith)

  -- the chosen tree is right
  pub chosen_right : (f : ℕ) → f < formulas F → until_free (formula F f) ≡ true → (m : ℕ) → within N.places m ≡ true → Right N F (chosen N F f m)
  unfolding RightAt
  chosen_right f h u m w = by (truth_of N F f m) refl
    where
      r : RightAt N F f m
      r = right_below (suc f) f (omega arith) h u m w

      by : (c : Bool) → truth_of N F f m ≡ c → Right N F (chosen N F f m)
      by true e = subst (Right N F) (sym (chosen_true N F f m e)) (r.0 e none Right.no_tree)
      by false e = subst (Right N F) (sym (chosen_false N F f m e)) (r.1 e none Right.no_tree)
