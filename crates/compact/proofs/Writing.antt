-- The new records and nodes as they are written: a record by its new numbers, and how records and nodes are stored one after another.
-- Assumes nothing.
use mathlib.Core.Path.{◌≡◌, refl, sym, ap, ap₂, ◌∙◌, subst}
use mathlib.Core.Bool.{Bool, true, false, cond}
use mathlib.Core.List.{List, []}
use Prim.Native.Nat.{ℕ, suc, ◌+◌, ◌*◌, ◌≤◌, ◌<◌}
use native.Mathlib.Omega.{arith}
use native.Mathlib.Nat.{zero-add}
use native.Mathlib.Numerals.{add-one}
use lib.ListN.{length, get_or}
use lib.Seq.{sets}
use Rattle.tables.specs.Lists.{laid}
use Rattle.tables.specs.Below.{count_below}
use Rattle.tables.proofs.Tests.{if_true, if_false}
use Rattle.tables.proofs.Below.{count_next, count_skip, count_most, count_above}
use Rattle.tables.proofs.Laid.{laid_length, laid_whole}
use Rattle.stores.proofs.Laid.{Stored, stored_none, stored_next, stored_skip, stored_all}
use Rattle.pctl.specs.declared.FormulaRecord.{FormulaRecord}
use Rattle.pctl.specs.Table.{formula_size, record_at, formulas, has_left, has_right}
use Rattle.pctl.specs.Written.{formula_bytes}
use Rattle.pctl.proofs.Written.{formula_length}
use Rattle.nodes.specs.declared.Node.{Node}
use Rattle.nodes.specs.Nodes.{node_size, nodes, node_at}
use Rattle.nodes.specs.Written.{node_bytes}
use Rattle.nodes.proofs.Written.{node_length}
use Rattle.compact_tables.specs.Tables.{operand_by, record_by, sequent_by, node_by}
use Rattle.compact.specs.Serving.{Nodes, at, is_marked, kept_by, node_of}

-- ---- a record

-- a record whose operands are found one after the other
pub record_put : (number : ℕ → ℕ) (room : List ℕ) (i : ℕ) {room₁ : List ℕ} {r g : FormulaRecord} {has has' : Bool} {left right : ℕ} → r ≡ g
    → has ≡ has_left r.operator → left ≡ operand_by number has r.left → has' ≡ has_right r.operator → right ≡ operand_by number has' r.right
    → room₁ ≡ sets room i (formula_bytes (record { operator = r.operator; left = left; right = right; action = r.action }))
    → room₁ ≡ sets room i (formula_bytes (record_by number g))
unfolding record_by
record_put number room i {r = r} e a b c d p =
    p
    ∙ ap₂ (λ (x y : ℕ). sets room i (formula_bytes (record { operator = r.operator; left = x; right = y; action = r.action })))
    (b ∙ ap (λ h. operand_by number h r.left) a) (d ∙ ap (λ h. operand_by number h r.right) c)
    ∙ ap (λ (x : FormulaRecord). sets room i (formula_bytes (record_by number x))) e

-- ---- the marked records

is-marked : (marks : List Bool) (i : ℕ) → get_or marks i false ≡ true → is_marked marks i ≡ true
unfolding is_marked
is-marked marks i e = e

not_marked : (marks : List Bool) (i : ℕ) → get_or marks i false ≡ false → is_marked marks i ≡ false
unfolding is_marked
not_marked marks i e = e

module _ (F : List ℕ) (marks : List Bool) (numbers : List ℕ) where
  kept_length : (i : ℕ) → length (kept_by F marks numbers i) ≡ cond (is_marked marks i) formula_size 0
  unfolding kept_by
  kept_length i = by (is_marked marks i)
    where
      by : (b : Bool) → length (cond b (formula_bytes (record_by (at numbers) (record_at F i))) []) ≡ cond b formula_size 0
      by true = formula_length (record_by (at numbers) (record_at F i))
      by false = refl

  pub kept_whole : (n : ℕ) → length (laid (kept_by F marks numbers) n) ≡ count_below (is_marked marks) n * formula_size
  kept_whole n = laid_length (kept_by F marks numbers) (is_marked marks) formula_size n (λ k _. kept_length k)

  -- the first i records are looked at, and n of them are stored
  pub record Kept (room₀ room : List ℕ) (n i : ℕ) : Type 0 where
    pub below : i ≤ formulas F
    pub count : n ≡ count_below (is_marked marks) i
    pub laid : Stored (kept_by F marks numbers) room₀ 0 room i

  pub kept_none : (room : List ℕ) → Kept room room 0 0
  unfolding count_below
  kept_none room = record { below = omega arith; count = refl; laid = stored_none (kept_by F marks numbers) room 0 }

  module _ {room₀ room : List ℕ} {n i : ℕ} (w : Kept room₀ room n i) where
    pub kept_most : n ≤ i
    kept_most = let q = w.count in let l = count_most (is_marked marks) i in omega arith

    -- record i is not marked
    pub kept_skip : i < formulas F → get_or marks i false ≡ false → Kept room₀ room n (i + 1)
    unfolding kept_by
    kept_skip h d =
        record {
          below = omega arith;
          count = w.count ∙ sym (ap (count_below (is_marked marks)) (add-one i) ∙ count_skip (is_marked marks) i (not_marked marks i d));
          laid =
              stored_skip w.laid
              (if_false (is_marked marks i) (formula_bytes (record_by (at numbers) (record_at F i))) [] (not_marked marks i d));
        }

    -- there is room for one that is marked
    pub kept_room : i < formulas F → get_or marks i false ≡ true → count_below (is_marked marks) (formulas F) * formula_size ≤ length room₀
        → n * formula_size + formula_size ≤ length room
    kept_room h e r =
        let s = w.laid.size in
        let q = w.count in
        let l = count_above (is_marked marks) i (formulas F) h (is-marked marks i e) in
        omega arith

    pub kept_next : {r : List ℕ} → i < formulas F → get_or marks i false ≡ true
        → r ≡ sets room (n * formula_size) (formula_bytes (record_by (at numbers) (record_at F i))) → Kept room₀ r (n + 1) (i + 1)
    unfolding kept_by
    kept_next h e p =
        record {
          below = omega arith;
          count =
              add-one n
              ∙ ap suc w.count
              ∙ sym (ap (count_below (is_marked marks)) (add-one i) ∙ count_next (is_marked marks) i (is-marked marks i e));
          laid =
              stored_next w.laid (n * formula_size) (ap (λ (x : ℕ). x * formula_size) w.count ∙ sym (zero-add _ ∙ kept_whole i))
              (p
              ∙ ap (sets room (n * formula_size))
              (sym (if_true (is_marked marks i) (formula_bytes (record_by (at numbers) (record_at F i))) [] (is-marked marks i e))));
        }

    pub kept_all : formulas F ≤ i → room ≡ sets room₀ 0 (laid (kept_by F marks numbers) (formulas F))
    kept_all h = stored_all w.laid w.below h

-- ---- the nodes

-- the formula of a node is an entry of the array
pub formula_few : (tree : List ℕ) (k : ℕ) {n : Node} → k < nodes tree → n ≡ node_at tree k → Nodes tree → n.sequent.formula < 256
unfolding node_at
formula_few tree k h e good = subst (λ (x : Node). x.sequent.formula < 256) (sym e) (good.low k h)

module _ (tree numbers : List ℕ) where
  node_whole : (n : ℕ) → length (laid (node_of tree numbers) n) ≡ n * node_size
  unfolding node_of
  node_whole n = laid_whole (node_of tree numbers) node_size n (λ k _. node_length (node_by (at numbers) (node_at tree k)))

  -- the first k nodes are stored
  pub record Put (room₀ room : List ℕ) (k : ℕ) : Type 0 where
    pub below : k ≤ nodes tree
    pub laid : Stored (node_of tree numbers) room₀ 0 room k

  pub put_none : (room : List ℕ) → Put room room 0
  put_none room = record { below = omega arith; laid = stored_none (node_of tree numbers) room 0 }

  module _ {room₀ room : List ℕ} {k : ℕ} (w : Put room₀ room k) where
    -- there is room for one more
    pub put_room : k < nodes tree → nodes tree * node_size ≤ length room₀ → k * node_size + node_size ≤ length room
    put_room h r = let s = w.laid.size in omega arith

    pub put_next : {r : List ℕ} {n : Node} → k < nodes tree → n ≡ node_at tree k
        → r ≡ sets room (k * node_size) (node_bytes (record {
          sequent = record {
            marking = n.sequent.marking;
            anchor = n.sequent.anchor;
            kept = n.sequent.kept;
            formula = at numbers n.sequent.formula;
            side = n.sequent.side;
            phase = n.sequent.phase;
            round = n.sequent.round;
          };
          parent = n.parent;
          first = n.first;
          children = n.children;
          rule = n.rule;
          transition = n.transition;
        }))
        → Put room₀ r (k + 1)
    unfolding node_of node_by sequent_by
    put_next h e q =
        record {
          below = omega arith;
          laid =
              stored_next w.laid (k * node_size) (sym (zero-add _ ∙ node_whole k))
              (q
              ∙ ap (λ (x : Node). sets room (k * node_size) (node_bytes (node_by (at numbers) x))) e);
        }

    pub put_all : nodes tree ≤ k → room ≡ sets room₀ 0 (laid (node_of tree numbers) (nodes tree))
    put_all h = stored_all w.laid w.below h
