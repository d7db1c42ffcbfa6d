-- The records of trees in a table: which node stands where. Assumes nothing.
use mathlib.Core.Path.{◌≡◌, refl, sym, ap, ◌∙◌, subst}
use mathlib.Core.Bool.{Bool, true, false, cond}
use mathlib.Core.List.{List, ◌++◌, append_assoc}
use Prim.Native.Nat.{ℕ, zero, suc, ◌+◌, ◌-◌, ◌*◌, ◌^◌, ◌≤◌, ◌<◌}
use native.Mathlib.Nat.{not-suc-le-zero, lt_of_lt_of_le, add-zero}
use native.Mathlib.Omega.{arith}
use lib.ListN.{length, length-append}
use lib.Pow.{pow_mono}
use lib.Dec.{eqb}
use borrow.Author.Tests.{ltb-true}
use Rattle.bitset.specs.Sets.{within}
use Rattle.tables.proofs.Tests.{and_intro}
use Rattle.net.specs.declared.Net.{Net}
use Rattle.pctl.specs.Table.{formulas}
use Rattle.tableau.specs.declared.Sequent.{Sequent}
use Rattle.tableau.specs.Rules.{clean}
use Rattle.nodes.specs.declared.Node.{Node}
use Rattle.nodes.specs.Nodes.{node_size, node_at}
use Rattle.nodes.specs.Written.{node_bytes}
use Rattle.nodes.proofs.Written.{node_length, NodeFits, node_read}
use Rattle.family.specs.Family.{same, agree}
use Rattle.checker.proofs.Derived.{same_self}
use Rattle.tree_shape.specs.Trees.{Trees, roots, size, node_of, heads, belows}
use Rattle.tree_shape.specs.Trees.Trees.{node}
use Rattle.tree_shape.proofs.Laid.{heads_length, belows_length, roots_size}
use Rattle.tree_answer.proofs.Right.{Follows, Right, sequents}
use Rattle.tree_answer.proofs.Right.Right.{no_tree, tree}

-- ---- a part of a table

-- the part stands in the table from node k on
pub record Stands (table part : List ℕ) (k : ℕ) : Type 0 where
  pub before : List ℕ
  pub after : List ℕ
  pub is : table ≡ before ++ (part ++ after)
  pub at : length before ≡ k * node_size

module _ (table x y : List ℕ) (k : ℕ) (s : Stands table (x ++ y) k) where
  -- its front
  pub stands_left : Stands table x k
  stands_left =
      record { before = s.before; after = y ++ s.after; is = s.is ∙ ap (λ l. s.before ++ l) (append_assoc x y s.after); at = s.at }

  -- its rest, after so many nodes
  pub stands_right : (n : ℕ) → length x ≡ n * node_size → Stands table y (k + n)
  stands_right n e =
      record {
        before = s.before ++ x;
        after = s.after;
        is =
            s.is
            ∙ ap (λ l. s.before ++ l) (append_assoc x y s.after)
            ∙ sym (append_assoc s.before x (y ++ s.after));
        at = omega (arith, length-append s.before x, s.at, e);
      }

-- a node's record
pub node_stands : (table : List ℕ) (n : Node) (k : ℕ) → Stands table (node_bytes n) k → NodeFits n → node_at table k ≡ n
node_stands table n k s fits = ap (λ l. node_at l k) s.is ∙ node_read s.before s.after k n s.at fits

-- ---- trees in a table

-- the roots' records stand from `at` on, those below from `free` on
pub record Placed (table : List ℕ) (T : Trees) (parent at free : ℕ) : Type 0 where
  pub top : Stands table (heads T parent free) at
  pub under : Stands table (belows T at free) free

module _ (table : List ℕ) (s : Sequent) (rule t : ℕ) (kids beside : Trees) (parent at free : ℕ) (p : Placed table (node s rule t kids beside) parent at free) where
  own_stands : Stands table (node_bytes (node_of s rule t kids parent free)) at
  unfolding heads
  own_stands = stands_left table (node_bytes (node_of s rule t kids parent free)) (heads beside parent (free + size kids)) at p.top

  pub kids_placed : Placed table kids at free (free + roots kids)
  unfolding belows
  kids_placed =
      record {
        top = stands_left table (heads kids at (free + roots kids)) _ free p.under;
        under =
            stands_left table (belows kids free (free + roots kids)) _ (free + roots kids)
            (stands_right table (heads kids at (free + roots kids)) _ free p.under (roots kids) (heads_length kids at (free + roots kids)));
      }

  pub beside_placed : Placed table beside parent (at + 1) (free + size kids)
  unfolding belows heads
  beside_placed =
      let one : length (node_bytes (node_of s rule t kids parent free)) ≡ 1 * node_size = node_length (node_of s rule t kids parent free) in
      record {
        top = stands_right table (node_bytes (node_of s rule t kids parent free)) (heads beside parent (free + size kids)) at p.top 1 one;
        under =
            subst (Stands table (belows beside (at + 1) (free + size kids))) next
            (stands_right table (belows kids free (free + roots kids)) (belows beside (at + 1) (free + size kids)) (free + roots kids)
            (stands_right table (heads kids at (free + roots kids)) _ free p.under (roots kids) (heads_length kids at (free + roots kids)))
            rest long);
      }
    where
      rest : ℕ
      rest = size kids - roots kids

      next : free + roots kids + rest ≡ free + size kids
      next = let h = roots_size kids in omega arith

      long : length (belows kids free (free + roots kids)) ≡ rest * node_size
      long = let h = roots_size kids in let b = belows_length kids free (free + roots kids) in omega arith

-- ---- what a right tree's nodes are in the table

module _ (N : Net) (F : List ℕ) (places_few : N.places ≤ 64) (count_few : N.transitions ≤ 64) (formulas_few : formulas F ≤ 256) where
  -- the record fits its bytes
  node_fits : {side f m rule t : ℕ} (kids : Trees) (parent free : ℕ) → Follows N F side f m rule t kids → parent < 65536 → free ≤ 65536
      → NodeFits (node_of (clean side f m) rule t kids parent free)
  unfolding within node_of
  node_fits {side} {f} {m} {rule} {t} kids parent free w p q =
      record {
        marking = lt_of_lt_of_le (ltb-true m (2 ^ N.places) w.marking) (pow_mono places_few);
        anchor = omega arith;
        kept = omega arith;
        parent = omega arith;
        first = by (eqb (roots kids) 0);
        formula = omega (arith, w.formula_in);
        children = omega (arith, w.few);
        rule = w.rule_low;
        side = omega (arith, w.side_low);
        phase = omega arith;
        round = omega arith;
        transition = omega (arith, w.chosen_in);
      }
    where
      by : (b : Bool) → cond b 0 free < 256 ^ 4
      by true = omega arith
      by false = omega arith

  module _ (table : List ℕ) where
    -- the node itself
    pub node_is : {side f m rule t : ℕ} (kids beside : Trees) (parent at free : ℕ) → Follows N F side f m rule t kids → parent < 65536 → free ≤ 65536
        → Placed table (node (clean side f m) rule t kids beside) parent at free
        → node_at table at ≡ node_of (clean side f m) rule t kids parent free
    node_is {side} {f} {m} {rule} {t} kids beside parent at free w p q s =
        node_stands table (node_of (clean side f m) rule t kids parent free) at (own_stands table (clean side f m) rule t kids beside parent at free s) (node_fits kids parent free w p q)

    -- the roots name their parent
    pub parents_are : {T : Trees} → Right N F T → (parent at free : ℕ) → parent < 65536 → free + size T ≤ 65536 + roots T → Placed table T parent at free
        → (j : ℕ) → j < roots T → (node_at table (at + j)).parent ≡ parent
    unfolding roots size node_of
    parents_are no_tree parent at free p q s j h = absurd (not-suc-le-zero h)
    parents_are (tree {side} {f} {m} {rule} {t} {kids} {beside} w k b) parent at free p q s zero h =
        ap (λ (i : ℕ). (node_at table i).parent) (add-zero at)
        ∙ ap (λ n. n.parent) (node_is kids beside parent at free w p (let z = roots_size beside in omega arith) s)
    parents_are (tree {side} {f} {m} {rule} {t} {kids} {beside} w k b) parent at free p q s (suc j) h =
        ap (λ (i : ℕ). (node_at table i).parent) (let e : at + suc j ≡ at + 1 + j = omega arith in e)
        ∙ parents_are b parent (at + 1) (free + size kids) p (omega arith)
        (beside_placed table (clean side f m) rule t kids beside parent at free s) j (omega arith)

    -- their sequents agree with the table
    pub agrees : {T : Trees} → Right N F T → (parent at free : ℕ) → parent < 65536 → free + size T ≤ 65536 + roots T → Placed table T parent at free
        → agree table (sequents T) at ≡ true
    unfolding roots size sequents agree node_at node_of
    agrees no_tree parent at free p q s = refl
    agrees (tree {side} {f} {m} {rule} {t} {kids} {beside} w k b) parent at free p q s =
        and_intro _ _
        (subst (λ x. same (clean side f m) x ≡ true)
        (sym (ap (λ n. n.sequent) (node_is kids beside parent at free w p (let z = roots_size beside in omega arith) s))) (same_self (clean side f m)))
        (agrees b parent (at + 1) (free + size kids) p (omega arith) (beside_placed table (clean side f m) rule t kids beside parent at free s))
