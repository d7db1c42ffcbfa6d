-- The new table of nodes: each node is the old one with the new number of its formula, also past the end; so links and trails are the same.
-- Assumes nothing.
use mathlib.Core.Path.{◌≡◌, refl, sym, ap, ap₂, ◌∙◌}
use mathlib.Core.Bool.{cond, not, ◌&&◌}
use mathlib.Core.Logic.{◌⊎◌, inl, inr}
use mathlib.Core.List.{List, [], ◌∷◌}
use Prim.Native.Nat.{ℕ, zero, suc, ◌+◌, ◌*◌, ◌/◌, ◌≤◌, ◌<◌}
use native.Mathlib.Nat.{lt_of_le_of_lt, mul-le-mul_right}
use native.Mathlib.Omega.{arith}
use lib.ListN.{length}
use lib.Dec.{eqb, leb, ltb}
use Rattle.tables.specs.Lists.{laid}
use Rattle.tables.specs.Below.{every_below}
use Rattle.tables.specs.Bytes.{field}
use Rattle.tables.proofs.Below.{lt_or_ge}
use Rattle.tables.proofs.Numbers.{Bytes, field_lt}
use Rattle.tables.proofs.Parts.{field_past}
use Rattle.tables.proofs.Laid.{laid_whole, laid_at}
use Rattle.tableau.specs.Rows.{row_of}
use Rattle.tableau.specs.Rules.{elem}
use Rattle.nodes.specs.declared.Node.{Node}
use Rattle.nodes.specs.Nodes.{node_size, nodes, sequent_at, node_at}
use Rattle.nodes.specs.Links.{counts, parent_good, named, children_good, links_good}
use Rattle.nodes.specs.Trails.{continues, trail_to, trail, on_trail}
use Rattle.nodes.proofs.Reading.{sequent-by, node-by}
use Rattle.nodes.proofs.Written.{node_length, NodeFits, node_read}
use Rattle.compact_tables.specs.Tables.{new_number, sequent_by, node_by, new_node, new_tree_lem}
use Rattle.compact_tables.proofs.Formulas.{number_most, number_zero}

-- ---- the bytes

-- those of the first n nodes
front_length : (F tree : List ℕ) (f n : ℕ) → length (laid (new_node F tree f) n) ≡ n * node_size
unfolding new_node
front_length F tree f n = laid_whole (new_node F tree f) node_size n (λ k l. node_length (node_by (new_number F f) (node_at tree k)))

pub tree_length : (F tree : List ℕ) (f : ℕ) → length (new_tree_lem F tree f) ≡ nodes tree * node_size
unfolding new_tree_lem
tree_length F tree f = front_length F tree f (nodes tree)

-- as many nodes
pub nodes_new : (F tree : List ℕ) (f : ℕ) → nodes (new_tree_lem F tree f) ≡ nodes tree
unfolding nodes
nodes_new F tree f = ap (λ (n : ℕ). n / node_size) (tree_length F tree f) ∙ (let e : nodes tree * 40 / 40 ≡ nodes tree = omega arith in e)

-- ---- the nodes

-- past the end every field is zero
zero_node : Node
zero_node =
    record {
      sequent = record { marking = 0; anchor = 0; kept = 0; formula = 0; side = 0; phase = 0; round = 0 };
      parent = 0;
      first = 0;
      children = 0;
      rule = 0;
      transition = 0;
    }

node_past : (tree : List ℕ) (k : ℕ) → length tree ≤ k * node_size → node_at tree k ≡ zero_node
unfolding node_at sequent_at zero_node
node_past tree k h =
    node-by
    (sequent-by (field_past 8 (k * 40) tree h) (at 8 8) (at 8 16) (at 2 32) (at 1 36) (at 1 37) (at 1 38))
    (at 4 24) (at 4 28) (at 1 34) (at 1 35) (at 1 39)
  where
    at : (n j : ℕ) → field n (k * 40 + j) tree ≡ 0
    at n j = field_past n (k * 40 + j) tree (omega arith)

module _ (F tree : List ℕ) (bytes : Bytes tree) (f : ℕ) (whole : nodes tree * node_size ≡ length tree) where
  node_fits : (k : ℕ) → NodeFits (node_by (new_number F f) (node_at tree k))
  unfolding node_by sequent_by node_at sequent_at
  node_fits k =
      record {
        marking = field_lt 8 (k * 40) tree bytes;
        anchor = field_lt 8 (k * 40 + 8) tree bytes;
        kept = field_lt 8 (k * 40 + 16) tree bytes;
        parent = field_lt 4 (k * 40 + 24) tree bytes;
        first = field_lt 4 (k * 40 + 28) tree bytes;
        formula = lt_of_le_of_lt (number_most F f _) (field_lt 2 (k * 40 + 32) tree bytes);
        children = field_lt 1 (k * 40 + 34) tree bytes;
        rule = field_lt 1 (k * 40 + 35) tree bytes;
        side = field_lt 1 (k * 40 + 36) tree bytes;
        phase = field_lt 1 (k * 40 + 37) tree bytes;
        round = field_lt 1 (k * 40 + 38) tree bytes;
        transition = field_lt 1 (k * 40 + 39) tree bytes;
      }

  node_inside : (k : ℕ) → k < nodes tree → node_at (new_tree_lem F tree f) k ≡ node_by (new_number F f) (node_at tree k)
  unfolding new_tree_lem new_node
  node_inside k h =
      let s = laid_at (new_node F tree f) (nodes tree) k h in
      ap (λ l. node_at l k) s.1
      ∙ node_read (laid (new_node F tree f) k) s.0 k (node_by (new_number F f) (node_at tree k)) (front_length F tree f k) (node_fits k)

  node_outside : (k : ℕ) → nodes tree ≤ k → node_at (new_tree_lem F tree f) k ≡ node_by (new_number F f) (node_at tree k)
  unfolding node_by sequent_by zero_node
  node_outside k h =
      let l : nodes tree * 40 ≤ k * 40 = mul-le-mul_right 40 h in
      let e : length (new_tree_lem F tree f) ≡ nodes tree * 40 = tree_length F tree f in
      node_past (new_tree_lem F tree f) k (omega arith)
      ∙ node-by (sequent-by refl refl refl (sym (number_zero F f)) refl refl refl) refl refl refl refl refl
      ∙ ap (node_by (new_number F f)) (sym (node_past tree k (omega (arith, whole))))

  -- node k, wherever k is
  pub node_new : (k : ℕ) → node_at (new_tree_lem F tree f) k ≡ node_by (new_number F f) (node_at tree k)
  node_new k = by (lt_or_ge k (nodes tree))
    where
      by : (k < nodes tree) ⊎ (nodes tree ≤ k) → node_at (new_tree_lem F tree f) k ≡ node_by (new_number F f) (node_at tree k)
      by (inl h) = node_inside k h
      by (inr h) = node_outside k h

  pub sequent_new : (k : ℕ) → sequent_at (new_tree_lem F tree f) k ≡ sequent_by (new_number F f) (sequent_at tree k)
  unfolding node_at node_by
  sequent_new k = ap (λ n. n.sequent) (node_new k)

  -- ---- links

  pub links_new : (k : ℕ) → links_good (new_tree_lem F tree f) k ≡ links_good tree k
  unfolding links_good parent_good children_good counts named node_by
  links_new k = λ i. parent i && children i
    where
      n : (j : ℕ) → node_at (new_tree_lem F tree f) j ≡ node_by (new_number F f) (node_at tree j)
      n = node_new

      parent : parent_good (new_tree_lem F tree f) k ≡ parent_good tree k
      parent =
          λ i.
          cond (eqb k 0) (eqb (n k i).parent 0)
          (ltb (n k i).parent k && (leb (n (n k i).parent i).first k && ltb k ((n (n k i).parent i).first + (n (n k i).parent i).children)))

      children : children_good (new_tree_lem F tree f) k ≡ children_good tree k
      children =
          λ i.
          cond (eqb (n k i).children 0) (eqb (n k i).first 0)
          (ltb k (n k i).first
          && leb ((n k i).first + (n k i).children) (nodes_new F tree f i)
          && every_below (λ j. eqb (n ((n k i).first + j) i).parent k) (n k i).children)

  -- ---- trails

  continues_new : (k : ℕ) → continues (new_tree_lem F tree f) k ≡ continues tree k
  unfolding continues node_by
  continues_new k = λ i. ltb (n k i).parent k && (row_of (n (n k i).parent i).rule).children.grows && not (eqb (n (n k i).parent i).first k)
    where
      n : (j : ℕ) → node_at (new_tree_lem F tree f) j ≡ node_by (new_number F f) (node_at tree j)
      n = node_new

  trail_new : (d k : ℕ) → trail_to d (new_tree_lem F tree f) k ≡ trail_to d tree k
  unfolding trail_to node_by sequent_by
  trail_new zero k = refl
  trail_new (suc d) k =
      let p : (node_at (new_tree_lem F tree f) k).parent ≡ (node_at tree k).parent = ap (λ n. n.parent) (node_new k) in
      ap₂ (λ b (j : ℕ). cond b ((sequent_at (new_tree_lem F tree f) j).marking ∷ trail_to d (new_tree_lem F tree f) j) []) (continues_new k) p
      ∙ ap₂ (λ (m : ℕ) t. cond (continues tree k) (m ∷ t) []) (ap (λ s. s.marking) (sequent_new (node_at tree k).parent)) (trail_new d (node_at tree k).parent)

  pub on_trail_new : (k : ℕ) → on_trail (new_tree_lem F tree f) k ≡ on_trail tree k
  unfolding on_trail trail sequent_by
  on_trail_new k = ap₂ elem (ap (λ s. s.marking) (sequent_new k)) (trail_new k k)
