-- The answers: what the code has found of the tables of an accepted tree is what the new tables are made of. Assumes nothing.
use mathlib.Core.Path.{◌≡◌, refl, sym, ap, ap₂, ◌∙◌, subst}
use mathlib.Core.Bool.{Bool, true, false, cond, not, ◌&&◌}
use mathlib.Core.List.{List, []}
use Prim.Native.Nat.{ℕ, suc, ◌+◌, ◌*◌, ◌≤◌, ◌<◌}
use native.Mathlib.Nat.{lt_of_lt_of_le}
use native.Mathlib.Numerals.{add-one}
use native.Mathlib.Omega.{arith}
use lib.ListN.{length, get_or}
use lib.Seq.{sets}
use lib.Dec.{leb}
use borrow.Author.Tests.{leb-true, not-true, not-false}
use Rattle.tables.specs.Lists.{tab, laid}
use Rattle.tables.specs.Below.{count_below}
use Rattle.tables.specs.Faults.{no_fault, fault}
use Rattle.tables.proofs.Tests.{and_left, and_right, if_true, if_false, failed}
use Rattle.tables.proofs.Below.{count_ext, count_next, count_rest, count_most}
use Rattle.tables.proofs.Entries.{get_d_tab}
use Rattle.tables.proofs.Laid.{laid_whole, laid_ext}
use Rattle.stores.proofs.Stores.{sets_front}
use Rattle.pctl.specs.declared.FormulaRecord.{FormulaRecord}
use Rattle.pctl.specs.Table.{formula_size, record_at, formulas, has_left, has_right}
use Rattle.pctl.specs.Written.{formula_bytes}
use Rattle.nodes.specs.declared.Ask.{Ask}
use Rattle.nodes.specs.Nodes.{ask_size_lem, node_size, ask_of, nodes, node_at}
use Rattle.nodes.specs.Written.{ask_bytes, node_bytes}
use Rattle.nodes.proofs.Written.{ask_length, node_length}
use Rattle.compact_tables.specs.Reached.{reached}
use Rattle.compact_tables.specs.Tables.{
  new_number,
  operand_by,
  record_by,
  sequent_by,
  node_by,
  ask_by,
  kept_record,
  new_formulas_lem,
  new_node,
  new_tree_lem,
  new_ask_lem,
  kept_count,
  Tables,
  tables,
  compacted,
}
use Rattle.compact_tables.specs.Answer.{refuse, front, granted, roomy, write_answer}
use Rattle.compact_tables.proofs.Reaching.{reached_self, reached_most}
use Rattle.std.proofs.Common.{Ok, Err}
use Rattle.compact.specs.declared.CompactRefusal.TheVariants.{Short}
use Rattle.compact.specs.Result.{numbers_of, answer_of}
use Rattle.compact.specs.Serving.{Ready, Marks, is_marked, at, kept_by, node_of}
use Rattle.compact.proofs.Records.{few_formulas, few, left_few, right_few}
use Rattle.compact.proofs.Writing.{kept_whole, formula_few}

-- what the code has found: the ask as it was read, the marks and the numbers
pub record Found (ask F tree : List ℕ) (a : Ask) (marks : List Bool) (numbers : List ℕ) : Type 0 where
  pub ready : Ready ask F tree
  pub asked : a ≡ ask_of ask
  pub marked : Marks (reached F a.formula) marks
  pub numbered : numbers ≡ tab (count_below (is_marked marks)) 256

-- the code's test of the lent tables: for the ask, for n formula records, and for a tree of so many bytes
abbrev pub enough : (n size : ℕ) (rooms : Tables) → Bool
enough n size rooms = leb ask_size_lem (length rooms.ask) && leb (n * formula_size) (length rooms.formulas) && leb size (length rooms.tree)

enough_each : (n size : ℕ) (rooms : Tables) → enough n size rooms ≡ true
    → (ask_size_lem ≤ length rooms.ask) × (n * formula_size ≤ length rooms.formulas) × (size ≤ length rooms.tree)
enough_each n size rooms e =
    let first : Bool = leb ask_size_lem (length rooms.ask) in
    let second : Bool = leb (n * formula_size) (length rooms.formulas) in
    let third : Bool = leb size (length rooms.tree) in
    let both : (first && second) ≡ true = and_left (first && second) third e in (
      leb-true ask_size_lem (length rooms.ask) (and_left first second both),
      leb-true (n * formula_size) (length rooms.formulas) (and_right first second both),
      leb-true size (length rooms.tree) (and_right (first && second) third e),
    )

-- a record whose operands have the same new numbers
record_same : (m n : ℕ → ℕ) (r : FormulaRecord) → m r.left ≡ n r.left → m r.right ≡ n r.right → record_by m r ≡ record_by n r
unfolding record_by operand_by
record_same m n r p q =
    ap₂ (λ (x y : ℕ). record {
      operator = r.operator;
      left = operand_by (λ _. x) (has_left r.operator) r.left;
      right = operand_by (λ _. y) (has_right r.operator) r.right;
      action = r.action;
    })
    p q

-- the asked record is among the tables
pub asked_inside : {ask F tree : List ℕ} {a : Ask} → Ready ask F tree → a ≡ ask_of ask → a.formula < formulas F
asked_inside {F = F} ready e = subst (λ (x : Ask). x.formula < formulas F) (sym e) ready.inside

module _ {ask F tree : List ℕ} {a : Ask} {marks : List Bool} {numbers : List ℕ} (w : Found ask F tree a marks numbers) where
  f : ℕ
  f = (ask_of ask).formula

  inside : a.formula < formulas F
  inside = asked_inside w.ready w.asked

  asked_few : a.formula < 256
  asked_few = few F w.ready.formulas_good a.formula inside

  -- ---- marks and numbers

  mark_says : (k : ℕ) → k < 256 → is_marked marks k ≡ reached F f k
  unfolding is_marked f
  mark_says k h =
      w.marked.each k h
      ∙ ap (λ (x : Ask). reached F x.formula k) w.asked

  counts : (n : ℕ) → n ≤ 256 → count_below (is_marked marks) n ≡ count_below (reached F f) n
  counts n h = count_ext (is_marked marks) (reached F f) n (λ k l. mark_says k (lt_of_lt_of_le l h))

  number_says : (k : ℕ) → k < 256 → at numbers k ≡ new_number F f k
  unfolding new_number
  number_says k h =
      ap (λ l. get_or l k 0) w.numbered ∙ get_d_tab (count_below (is_marked marks)) 256 k 0 h ∙ counts k (omega arith)

  -- the asked record's new number
  asked_number : at numbers a.formula ≡ new_number F f f
  unfolding f
  asked_number = number_says a.formula asked_few ∙ ap (λ (x : Ask). new_number F f x.formula) w.asked

  pub number_few : at numbers a.formula < 256
  unfolding new_number f
  number_few =
      let e = asked_number in
      let m : new_number F f f ≤ f = count_most (reached F f) f in
      let l : a.formula < 256 = asked_few in
      let q : a.formula ≡ f = ap (λ (x : Ask). x.formula) w.asked in
      omega arith

  -- it is the last that is kept, so the others are below it
  count_kept : at numbers a.formula + 1 ≡ kept_count F f
  unfolding new_number kept_count f
  count_kept =
      add-one (at numbers a.formula)
      ∙ ap suc asked_number
      ∙ sym (count_next (reached F f) f (reached_self F f))
      ∙ sym (count_rest (reached F f) (suc f) (formulas F) w.ready.inside above)
    where
      above : (k : ℕ) → suc f ≤ k → k < formulas F → reached F f k ≡ false
      above k p q =
          failed (reached F f k)
          (λ e. let l : k ≤ f = reached_most F w.ready.formulas_good.lower f w.ready.inside k e in omega arith)

  -- as many as are marked
  count_marked : count_below (is_marked marks) (formulas F) ≡ at numbers a.formula + 1
  unfolding kept_count
  count_marked = counts (formulas F) (few_formulas F w.ready.formulas_good) ∙ sym count_kept

  -- ---- the new tables

  formulas_new : laid (kept_by F marks numbers) (formulas F) ≡ new_formulas_lem F f
  unfolding new_formulas_lem kept_by kept_record
  formulas_new =
      laid_ext (kept_by F marks numbers) (kept_record F f) (formulas F)
      (λ k h. ap₂ (λ b (r : FormulaRecord). cond b (formula_bytes r) []) (mark_says k (few F w.ready.formulas_good k h)) (same k h))
    where
      same : (k : ℕ) → k < formulas F → record_by (at numbers) (record_at F k) ≡ record_by (new_number F f) (record_at F k)
      same k h =
          record_same (at numbers) (new_number F f) (record_at F k)
          (number_says (record_at F k).left (left_few F w.ready.formulas_good k h refl))
          (number_says (record_at F k).right (right_few F w.ready.formulas_good k h refl))

  tree_new : laid (node_of tree numbers) (nodes tree) ≡ new_tree_lem F tree f
  unfolding new_tree_lem node_of new_node node_by sequent_by
  tree_new =
      laid_ext (node_of tree numbers) (new_node F tree f) (nodes tree)
      (λ k h.
      ap (λ (x : ℕ). node_bytes (node_by (λ _. x) (node_at tree k)))
      (number_says (node_at tree k).sequent.formula (formula_few tree k h refl w.ready.nodes_good)))

  ask_new : ask_bytes (ask_by (λ _. at numbers a.formula) a) ≡ new_ask_lem ask F f
  unfolding new_ask_lem ask_by
  ask_new =
      ap (λ (x : ℕ). ask_bytes (ask_by (λ _. x) a)) (number_says a.formula asked_few)
      ∙ ap (λ (x : Ask). ask_bytes (ask_by (new_number F f) x)) w.asked

  -- ---- their lengths

  ask_long : length (new_ask_lem ask F f) ≡ ask_size_lem
  unfolding new_ask_lem
  ask_long = ask_length (ask_by (new_number F f) (ask_of ask))

  formulas_long : length (new_formulas_lem F f) ≡ (at numbers a.formula + 1) * formula_size
  formulas_long =
      ap length (sym formulas_new) ∙ kept_whole F marks numbers (formulas F) ∙ ap (λ (x : ℕ). x * formula_size) count_marked

  tree_long : length (new_tree_lem F tree f) ≡ length tree
  unfolding new_tree_lem new_node
  tree_long =
      laid_whole (new_node F tree f) node_size (nodes tree) (λ k _. node_length (node_by (new_number F f) (node_at tree k))) ∙ w.ready.whole

  -- ---- the answer

  module _ (rooms : Tables) where
    enough_roomy : roomy (compacted (tables ask F tree)) rooms ≡ enough (at numbers a.formula + 1) (length tree) rooms
    unfolding roomy compacted f
    enough_roomy =
        ap₂ ◌&&◌ (ap₂ (λ (x y : ℕ). leb x (length rooms.ask) && leb y (length rooms.formulas)) ask_long formulas_long)
        (ap (λ (x : ℕ). leb x (length rooms.tree)) tree_long)

    -- a room is too short
    pub refused_short : not (enough (at numbers a.formula + 1) (length tree) rooms) ≡ true → answer_of (Err Short) rooms ≡ write_answer ask F tree rooms
    unfolding answer_of numbers_of write_answer
    refused_short e =
        sym
        (if_false (roomy (compacted (tables ask F tree)) rooms) (granted (kept_count F (ask_of ask).formula) (compacted (tables ask F tree)) rooms)
        (refuse (fault 12 0) rooms) (enough_roomy ∙ not-true (enough (at numbers a.formula + 1) (length tree) rooms) e))

    module _ (h : not (enough (at numbers a.formula + 1) (length tree) rooms) ≡ false) where
      e : enough (at numbers a.formula + 1) (length tree) rooms ≡ true
      e = not-false (enough (at numbers a.formula + 1) (length tree) rooms) h

      each : (ask_size_lem ≤ length rooms.ask)
          × ((at numbers a.formula + 1) * formula_size ≤ length rooms.formulas)
          × (length tree ≤ length rooms.tree)
      each = enough_each (at numbers a.formula + 1) (length tree) rooms e

      -- there is room for each
      pub ask-room : ask_size_lem ≤ length rooms.ask
      ask-room = each.0

      pub formulas-room : count_below (is_marked marks) (formulas F) * formula_size ≤ length rooms.formulas
      formulas-room = subst (λ (x : ℕ). x * formula_size ≤ length rooms.formulas) (sym count_marked) each.1

      pub nodes-room : nodes tree * node_size ≤ length rooms.tree
      nodes-room = subst (λ (x : ℕ). x ≤ length rooms.tree) (sym w.ready.whole) each.2

      -- the new tables are written
      pub writes : {r₁ r₂ r₃ : List ℕ} → r₁ ≡ sets rooms.ask 0 (ask_bytes (record { marking = a.marking; formula = at numbers a.formula; places = a.places; side = a.side }))
          → r₂ ≡ sets rooms.formulas 0 (laid (kept_by F marks numbers) (formulas F))
          → r₃ ≡ sets rooms.tree 0 (laid (node_of tree numbers) (nodes tree))
          → answer_of (Ok (at numbers a.formula + 1)) (tables r₁ r₂ r₃) ≡ write_answer ask F tree rooms
      unfolding answer_of numbers_of write_answer granted compacted ask_by f
      writes {r₁} {r₂} {r₃} p q s =
          (λ i. record { found = no_fault; count = count_kept i; rooms = tables (first i) (second i) (third i) })
          ∙ sym
          (if_true (roomy (compacted (tables ask F tree)) rooms) (granted (kept_count F f) (compacted (tables ask F tree)) rooms)
          (refuse (fault 12 0) rooms) (enough_roomy ∙ e))
        where
          first : r₁ ≡ front (new_ask_lem ask F f) rooms.ask
          first =
              p ∙ ap (sets rooms.ask 0) ask_new
              ∙ sets_front rooms.ask (new_ask_lem ask F f) (let m = ask_long in let l = each.0 in omega arith)

          second : r₂ ≡ front (new_formulas_lem F f) rooms.formulas
          second =
              q ∙ ap (sets rooms.formulas 0) formulas_new
              ∙ sets_front rooms.formulas (new_formulas_lem F f) (let m = formulas_long in let l = each.1 in omega arith)

          third : r₃ ≡ front (new_tree_lem F tree f) rooms.tree
          third =
              s ∙ ap (sets rooms.tree 0) tree_new
              ∙ sets_front rooms.tree (new_tree_lem F tree f) (let m = tree_long in let l = each.2 in omega arith)
