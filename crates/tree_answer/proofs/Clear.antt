-- A table in which right trees stand has no fault at their nodes. Assumes nothing.
use mathlib.Core.Path.{◌≡◌, refl, sym, ap, ◌∙◌, subst}
use mathlib.Core.Bool.{true, cond, not, ◌&&◌}
use mathlib.Core.Logic.{◌⊎◌, inl, inr}
use mathlib.Core.List.{List}
use Prim.Native.Nat.{ℕ, zero, suc, ◌+◌, ◌≤◌, ◌<◌}
use native.Mathlib.Nat.{add-zero}
use native.Mathlib.Omega.{arith}
use lib.ListN.{length}
use lib.Dec.{eqb, leb, ltb}
use borrow.Author.Tests.{eq-eqb, ne_eqb, le-leb, lt-ltb}
use Rattle.tables.proofs.Below.{lt_or_ge, every_is}
use Rattle.tables.proofs.Tests.{and_intro, or_left, if_false}
use Rattle.net.specs.declared.Net.{Net}
use Rattle.pctl.specs.Table.{formulas}
use Rattle.tableau.specs.Rows.{row_of}
use Rattle.tableau.specs.Rules.{clean, in_range, fits, condition, children}
use Rattle.nodes.specs.declared.Ask.{Ask}
use Rattle.nodes.specs.declared.Node.{Node}
use Rattle.nodes.specs.Nodes.{nodes, node_at, sequent_at}
use Rattle.nodes.specs.Links.{counts, parent_good, named, children_good, links_good}
use Rattle.nodes.specs.Trails.{on_trail}
use Rattle.family.specs.Family.{agree}
use Rattle.faults.specs.Faults.{root_good, fault_at}
use Rattle.checker.proofs.Derived.{passed_none}
use Rattle.tree_shape.specs.Trees.{Trees, roots, size, node_of}
use Rattle.tree_shape.specs.Trees.Trees.{none, node}
use Rattle.tree_shape.proofs.Laid.{roots_size}
use Rattle.tree_answer.proofs.Right.{Follows, Right, sequents, sequents_length, in-range}
use Rattle.tree_answer.proofs.Right.Right.{no_tree, tree}
use Rattle.tree_answer.proofs.Standing.{Placed, kids_placed, beside_placed, node_is, parents_are, agrees}

-- the first child of a node with children
first_is_free : (n free j : ℕ) → j < n → cond (eqb n 0) 0 free ≡ free
first_is_free n free j h = if_false (eqb n 0) 0 free (ne_eqb n 0 (λ e. omega arith))

-- where there is no child, no sequent is compared
agree_first : (table : List ℕ) (kids : Trees) (free : ℕ) → agree table (sequents kids) free ≡ true
    → agree table (sequents kids) (cond (eqb (roots kids) 0) 0 free) ≡ true
unfolding sequents roots agree
agree_first table none free h = refl
agree_first table (node s rule t kids beside) free h = subst (λ (k : ℕ). agree table (sequents (node s rule t kids beside)) k ≡ true) (sym (first_is_free (suc (roots beside)) free 0 (omega arith))) h

module _ (N : Net) (F : List ℕ) (places_few : N.places ≤ 64) (count_few : N.transitions ≤ 64) (formulas_few : formulas F ≤ 256) (a : Ask) (table : List ℕ)
    (most : nodes table ≤ 65536) where
  -- the room that trees take in the table, and their roots' own links
  record Around (T : Trees) (parent at free : ℕ) : Type 0 where
    pub lower : at + roots T ≤ free
    pub inside : free + size T ≤ nodes table + roots T
    pub parent_in : parent < 65536
    pub parents : (j : ℕ) → j < roots T → parent_good table (at + j) ≡ true
    pub rooted : (j : ℕ) → j < roots T → root_good a (sequent_at table (at + j)) (at + j) ≡ true

  module _ {side f m rule t : ℕ} (kids beside : Trees) (parent at free : ℕ) (w : Follows N F side f m rule t kids) (rk : Right N F kids)
      (s : Placed table (node (clean side f m) rule t kids beside) parent at free) (r : Around (node (clean side f m) rule t kids beside) parent at free) where
    bounds : (at < free) × (free + size kids ≤ nodes table)
    unfolding roots size
    bounds = let l = r.lower in let i = r.inside in let z = roots_size beside in (omega arith, omega arith)

    here : node_at table at ≡ node_of (clean side f m) rule t kids parent free
    here = node_is N F places_few count_few formulas_few table kids beside parent at free w r.parent_in (let b = bounds.1 in omega arith) s

    below : Placed table kids at free (free + roots kids)
    below = kids_placed table (clean side f m) rule t kids beside parent at free s

    at_in : at < 65536
    at_in = let b = bounds in let x = b.0 in let y = b.1 in omega arith

    few_below : free + roots kids + size kids ≤ 65536 + roots kids
    few_below = let y = bounds.1 in omega arith

    kid_parent : (j : ℕ) → j < roots kids → (node_at table (free + j)).parent ≡ at
    kid_parent = parents_are N F places_few count_few formulas_few table rk at free (free + roots kids) at_in few_below below

    -- the node counts its children
    kid_counted : (j : ℕ) → j < roots kids → counts table at (free + j) ≡ true
    unfolding counts node_of
    kid_counted j h =
        subst (λ (n : Node). (leb n.first (free + j) && ltb (free + j) (n.first + n.children)) ≡ true) (sym here)
        (subst (λ (k : ℕ). (leb k (free + j) && ltb (free + j) (k + roots kids)) ≡ true) (sym (first_is_free (roots kids) free j h))
        (and_intro _ _ (le-leb free (free + j) (omega arith)) (lt-ltb (free + j) (free + roots kids) (omega arith))))

    kids_around : Around kids at free (free + roots kids)
    unfolding parent_good root_good
    kids_around =
        record {
          lower = omega arith;
          inside = let y = bounds.1 in omega arith;
          parent_in = at_in;
          parents = λ j h. by j h;
          rooted = λ j h. or_left (not (eqb (free + j) 0)) _ (ap not (ne_eqb (free + j) 0 (λ e. let x = bounds.0 in omega arith)));
        }
      where
        by : (j : ℕ) → j < roots kids → parent_good table (free + j) ≡ true
        by j h =
            if_false (eqb (free + j) 0) _ _ (ne_eqb (free + j) 0 (λ e. let x = bounds.0 in omega arith))
            ∙ ap (λ (p : ℕ). ltb p (free + j) && counts table p (free + j)) (kid_parent j h)
            ∙ and_intro _ _ (lt-ltb at (free + j) (let x = bounds.0 in omega arith)) (kid_counted j h)

    beside_around : Around beside parent (at + 1) (free + size kids)
    unfolding roots size
    beside_around =
        record {
          lower = let l = r.lower in omega arith;
          inside = let i = r.inside in omega arith;
          parent_in = r.parent_in;
          parents = λ j h. subst (λ (k : ℕ). parent_good table k ≡ true) (shift j) (r.parents (suc j) (omega arith));
          rooted = λ j h. subst (λ (k : ℕ). root_good a (sequent_at table k) k ≡ true) (shift j) (r.rooted (suc j) (omega arith));
        }
      where
        shift : (j : ℕ) → at + suc j ≡ at + 1 + j
        shift j = omega arith

    -- its children's links
    own_children : children_good table at ≡ true
    unfolding children_good named node_of
    own_children =
        subst
        (λ (n : Node).
        cond (eqb n.children 0) (eqb n.first 0)
        (ltb at n.first
        && leb (n.first + n.children) (nodes table)
        && named table n.first n.children at)
        ≡ true)
        (sym here) (by (roots kids) refl)
      where
        by : (n : ℕ) → roots kids ≡ n
            → cond (eqb n 0) (eqb (cond (eqb n 0) 0 free) 0)
            (ltb at (cond (eqb n 0) 0 free)
            && leb (cond (eqb n 0) 0 free + n) (nodes table)
            && named table (cond (eqb n 0) 0 free) n at)
            ≡ true
        by zero e = refl
        by (suc n) e =
            let x = bounds.0 in
            let y = bounds.1 in
            let z = roots_size kids in
            subst
            (λ b.
            cond b (eqb (cond b 0 free) 0) (ltb at (cond b 0 free) && leb (cond b 0 free + suc n) (nodes table) && named table (cond b 0 free) (suc n) at)
            ≡ true)
            (sym (ne_eqb (suc n) 0 (λ q. omega arith)))
            (and_intro _ _ (and_intro _ _ (lt-ltb at free x) (le-leb (free + suc n) (nodes table) (omega arith)))
            (every_is _ (suc n) (λ j h. eq-eqb _ _ (kid_parent j (omega arith)))))

    -- the node has no fault
    node_clear : fault_at N F a table at ≡ 0
    unfolding node_at node_of links_good roots
    node_clear =
        passed_none N F a table at
        record {
          links = and_intro _ _ (subst (λ (k : ℕ). parent_good table k ≡ true) (add-zero at) (r.parents 0 (omega arith))) own_children;
          ranges =
              subst (λ (n : Node). in_range N F (row_of n.rule) n.sequent (record { transition = n.transition }) ≡ true) (sym here) (in-range N F w);
          root = subst (λ (k : ℕ). root_good a (sequent_at table k) k ≡ true) (add-zero at) (r.rooted 0 (omega arith));
          rule = subst (λ (n : Node). fits (row_of n.rule) F n.sequent ≡ true) (sym here) w.fitting;
          met =
              subst
              (λ (n : Node). condition N F (row_of n.rule) n.sequent (record { transition = n.transition }) (on_trail table at) ≡ true)
              (sym here) (w.met (on_trail table at));
          count =
              subst
              (λ (n : Node). n.children ≡ length (children N F (row_of n.rule) n.sequent (record { transition = n.transition })))
              (sym here) (sym (ap length w.below ∙ sequents_length kids));
          sequents =
              subst
              (λ (n : Node). agree table (children N F (row_of n.rule) n.sequent (record { transition = n.transition })) n.first ≡ true)
              (sym here)
              (subst (λ l. agree table l (cond (eqb (roots kids) 0) 0 free) ≡ true) (sym w.below)
              (agree_first table kids free (agrees N F places_few count_few formulas_few table rk at free (free + roots kids) at_in few_below below)));
        }

  -- the nodes of right trees have no fault: the roots, and those below
  trees_clear : {T : Trees} → Right N F T → (parent at free : ℕ) → Placed table T parent at free → Around T parent at free
      → ((k : ℕ) → at ≤ k → k < at + roots T → fault_at N F a table k ≡ 0)
      × ((k : ℕ) → free ≤ k → k + roots T < free + size T → fault_at N F a table k ≡ 0)
  unfolding roots size
  trees_clear no_tree parent at free s r = (λ k l h. absurd (omega arith), λ k l h. absurd (omega arith))
  trees_clear (tree {side} {f} {m} {rule} {t} {kids} {beside} w rk rb) parent at free s r =
      let inner = trees_clear rk at free (free + roots kids) (kids_placed table (clean side f m) rule t kids beside parent at free s) (kids_around kids beside parent at free w rk s r) in
      let outer = trees_clear rb parent (at + 1) (free + size kids) (beside_placed table (clean side f m) rule t kids beside parent at free s)
      (beside_around kids beside parent at free w rk s r) in (
        λ k l h. top outer.0 k l h (lt_or_ge at k),
        λ k l h. under inner.0 inner.1 outer.1 k l h (lt_or_ge k (free + roots kids)) (lt_or_ge k (free + size kids)),
      )
    where
      top : ((k : ℕ) → at + 1 ≤ k → k < at + 1 + roots beside → fault_at N F a table k ≡ 0) → (k : ℕ) → at ≤ k → k < at + suc (roots beside)
          → (at < k) ⊎ (k ≤ at) → fault_at N F a table k ≡ 0
      top o k l h (inl x) = o k (omega arith) (omega arith)
      top o k l h (inr x) =
          subst (λ (i : ℕ). fault_at N F a table i ≡ 0) (let e : at ≡ k = omega arith in e) (node_clear kids beside parent at free w rk s r)

      under : ((k : ℕ) → free ≤ k → k < free + roots kids → fault_at N F a table k ≡ 0)
          → ((k : ℕ) → free + roots kids ≤ k → k + roots kids < free + roots kids + size kids → fault_at N F a table k ≡ 0)
          → ((k : ℕ) → free + size kids ≤ k → k + roots beside < free + size kids + size beside → fault_at N F a table k ≡ 0)
          → (k : ℕ) → free ≤ k → k + suc (roots beside) < free + suc (size kids + size beside) → (k < free + roots kids) ⊎ (free + roots kids ≤ k)
          → (k < free + size kids) ⊎ (free + size kids ≤ k) → fault_at N F a table k ≡ 0
      under i j o k l h (inl x) y = i k l x
      under i j o k l h (inr x) (inl y) = j k x (omega arith)
      under i j o k l h (inr x) (inr y) = o k y (omega arith)

  -- a table that holds one right tree, whose root is the ask in phase 0, has no fault
  pub table_clear : {T : Trees} → Right N F T → roots T ≡ 1 → size T ≡ nodes table → Placed table T 0 0 1 → root_good a (sequent_at table 0) 0 ≡ true
      → (k : ℕ) → k < nodes table → fault_at N F a table k ≡ 0
  unfolding parent_good
  table_clear {T} rt one whole s root k h =
      let c = trees_clear rt 0 0 1 s around in by c.0 c.1 k h (lt_or_ge 0 k)
    where
      zero-parent : (node_at table 0).parent ≡ 0
      zero-parent = parents_are N F places_few count_few formulas_few table rt 0 0 1 (omega arith) (omega arith) s 0 (omega arith)

      around : Around T 0 0 1
      around =
          record {
            lower = omega arith;
            inside = omega arith;
            parent_in = omega arith;
            parents = λ j l. subst (λ (i : ℕ). parent_good table i ≡ true) (let e : 0 ≡ 0 + j = omega arith in e) (eq-eqb _ _ zero-parent);
            rooted = λ j l. subst (λ (i : ℕ). root_good a (sequent_at table i) i ≡ true) (let e : 0 ≡ 0 + j = omega arith in e) root;
          }

      by : ((k : ℕ) → 0 ≤ k → k < 0 + roots T → fault_at N F a table k ≡ 0) → ((k : ℕ) → 1 ≤ k → k + roots T < 1 + size T → fault_at N F a table k ≡ 0)
          → (k : ℕ) → k < nodes table → (0 < k) ⊎ (k ≤ 0) → fault_at N F a table k ≡ 0
      by x y k h (inl l) = y k l (omega arith)
      by x y k h (inr l) = x k (omega arith) (omega arith)
