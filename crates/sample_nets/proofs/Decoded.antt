-- The conflicts in a table: what each way through the code has found fixes the set. Assumes nothing.
use Prim.Native.Nat.{ℕ, ◌≤◌, ◌<◌}
use mathlib.Core.Path.{◌≡◌, sym, ap, ◌∙◌, subst}
use mathlib.Core.Bool.{Bool, true, false, cond, ◌&&◌}
use mathlib.Core.List.{List}
use native.Mathlib.Omega.{arith}
use lib.ListN.{length}
use lib.Dec.{eqb, ltb}
use borrow.Author.Tests.{lt-ltb, le-ltb}
use Rattle.tables.proofs.Counts.{sized_most}
use Rattle.tables.proofs.Scans.{scan_passed}
use Rattle.net.specs.declared.Net.{Net}
use Rattle.net.specs.declared.Refusal.{Refusal}
use Rattle.std.proofs.Common.{Ok, Err}
use Rattle.net.specs.Step.{conflicts}
use Rattle.net.specs.Table.{transitions, net_of, table_sized, record_bad}
use Rattle.net.specs.Answer.{checked, table_fault}
use Rattle.net.proofs.Answers.{refusal_number}
use Rattle.sample_nets.specs.Tables.{conflicts_in}

-- a table that has passed
module _ (places : ℕ) (table : List ℕ) {x : Unit {0}} (e : checked (Ok x) ≡ table_fault places table) where
  pub whole : table_sized table ≡ true
  unfolding checked table_fault table_sized
  whole =
      (scan_passed 2 3 24 1 64 (record_bad places table) (length table) (λ q. omega arith) (λ q. omega arith) (sym (ap (λ f. f.number) e))).0

  pub few : (N : Net) → N ≡ net_of places table → N.transitions ≤ 64
  unfolding net_of transitions table_sized
  few N d = subst (λ (n : ℕ). n ≤ 64) (sym (ap (λ n. n.transitions) d)) (sized_most 24 1 64 (length table) whole)

module _ (places : ℕ) (table : List ℕ) (t : ℕ) where
  -- the set by its two tests
  by_tests : Bool → Bool → ℕ
  by_tests good inside = cond (good && inside) (conflicts (net_of places table) t) 0

  pub refused : (r : Refusal) → checked (Err r) ≡ table_fault places table → 0 ≡ conflicts_in places table t
  unfolding conflicts_in checked by_tests
  refused r e =
      sym
      (ap (λ f. by_tests (eqb f.number 0) (ltb t (transitions table))) (sym e)
      ∙ ap (λ b. by_tests b (ltb t (transitions table))) (refusal_number r))

  module _ {x : Unit {0}} (e : checked (Ok x) ≡ table_fault places table) where
    tested : (b : Bool) → ltb t (transitions table) ≡ b → conflicts_in places table t ≡ by_tests true b
    unfolding conflicts_in checked by_tests
    tested b h = ap (λ f. by_tests (eqb f.number 0) (ltb t (transitions table))) (sym e) ∙ ap (by_tests true) h

    pub absent : (N : Net) → N ≡ net_of places table → N.transitions ≤ t → 0 ≡ conflicts_in places table t
    unfolding net_of by_tests
    absent N d h = sym (tested false (le-ltb t (transitions table) (subst (λ n. n.transitions ≤ t) d h)))

    pub found : (N : Net) (r : ℕ) → N ≡ net_of places table → t < N.transitions → r ≡ conflicts N t → r ≡ conflicts_in places table t
    unfolding net_of by_tests
    found N r d h q =
        q ∙ ap (λ n. conflicts n t) d
        ∙ sym (tested true (lt-ltb t (transitions table) (subst (λ n. t < n.transitions) d h)))
