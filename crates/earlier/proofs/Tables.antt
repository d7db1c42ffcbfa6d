-- A table without marks: its records are bad where they were, its net has no optional transition. Assumes nothing.
use mathlib.Core.Path.{◌≡◌, refl, sym, ap, ap₂, ◌∙◌}
use mathlib.Core.Bool.{Bool, true, false, cond, not, ◌&&◌, and-true}
use mathlib.Core.List.{List}
use Prim.Native.Nat.{ℕ, zero, suc, ◌+◌, ◌*◌, ◌<◌}
use native.Mathlib.Nat.{add_assoc}
use native.Mathlib.Omega.{arith}
use lib.ListN.{length}
use lib.Dec.{eqb, leb}
use Rattle.bitset.specs.Sets.{within, collect}
use Rattle.bitset.proofs.Relations.{collect_ext}
use Rattle.tables.specs.Bytes.{field}
use Rattle.tables.specs.Lists.{tab, up_to}
use Rattle.tables.specs.Faults.{no_fault, fault, or_else}
use Rattle.tables.proofs.Numbers.{field_split}
use Rattle.tables.proofs.Scans.{scan_ext}
use Rattle.net.specs.Table.{pre_at, post_at, action_at, mark_at, optional_at, spare_at, transitions, net_of, places_good, record_bad}
use Rattle.net.specs.Answer.{refuse, step_answer, table_fault, load_fault, firing}
use Rattle.walk.specs.declared.Walk.{Walk}
use Rattle.walk.specs.State.{started_at}
use Rattle.walk.specs.Calls.{granted, load_answer, load_walk}
use Rattle.earlier.specs.Tables.{earlier_spare_at, earlier_net_of, earlier_record_bad, earlier_table_fault, earlier_load_fault, earlier_firing, earlier_load_walk}
use Rattle.earlier.specs.AsBefore.{Unmarked}

-- nothing passes a test that all fail
collect_none : (n : ℕ) → collect (λ _. false) n ≡ 0
unfolding collect
collect_none zero = refl
collect_none (suc n) = ap (λ (x : ℕ). x + 0) (collect_none n)

module _ (net : List ℕ) (plain : Unmarked net) where
  mark_spare : (t : ℕ) → t < transitions net → (mark_at net t ≡ 0) × (spare_at net t ≡ 0)
  unfolding Unmarked earlier_spare_at mark_at spare_at
  mark_spare t l =
      let s : field 1 (t * 24 + 18) net + 256 * field 5 (t * 24 + 18 + 1) net ≡ 0 = sym (field_split 1 5 (t * 24 + 18) net) ∙ plain t l in
      let a : field 1 (t * 24 + 18) net ≡ 0 = omega arith in
      let b : field 5 (t * 24 + 18 + 1) net ≡ 0 = omega arith in
      (a, ap (λ (x : ℕ). field 5 x net) (sym (add_assoc (t * 24) 18 1)) ∙ b)

  bad_is : (places t : ℕ) → t < transitions net → record_bad places net t ≡ earlier_record_bad places net t
  unfolding record_bad earlier_record_bad Unmarked
  bad_is places t l =
      ap₂ (λ (x y : ℕ). not (sets && leb x 1 && eqb y 0)) (mark_spare t l).0 (mark_spare t l).1
      ∙ ap (λ b. not (b && true)) (and-true sets)
      ∙ sym (ap (λ (x : ℕ). not (sets && eqb x 0)) (plain t l))
    where
      sets : Bool
      sets = within places (pre_at net t) && within places (post_at net t)

  none_optional : collect (optional_at net) (transitions net) ≡ 0
  none_optional = collect_ext (optional_at net) (λ _. false) (transitions net) pressed ∙ collect_none (transitions net)
    where
      pressed : (t : ℕ) → t < transitions net → optional_at net t ≡ false
      pressed t l = unfold optional_at in ap (λ (x : ℕ). eqb x 1) (mark_spare t l).0

  pub net_is : (places : ℕ) → net_of places net ≡ earlier_net_of places net
  unfolding net_of earlier_net_of
  net_is places =
      λ i. record {
        places = places;
        transitions = transitions net;
        pre = tab (up_to (pre_at net) (transitions net)) 64;
        post = tab (up_to (post_at net) (transitions net)) 64;
        action = tab (up_to (action_at net) (transitions net)) 64;
        optional = none_optional i;
      }

  pub table_is : (places : ℕ) → table_fault places net ≡ earlier_table_fault places net
  unfolding table_fault earlier_table_fault transitions
  table_is places = scan_ext 2 3 24 1 64 (record_bad places net) (earlier_record_bad places net) (length net) (bad_is places)

  pub load_is : (places m : ℕ) → load_fault places m net ≡ earlier_load_fault places m net
  unfolding load_fault earlier_load_fault
  load_is places m = ap (λ f. cond (places_good places) (or_else f (cond (within places m) no_fault (fault 7 0))) (fault 1 0)) (table_is places)

  pub fire_is : (places m t : ℕ) → firing places m net t ≡ earlier_firing places m net t
  unfolding firing earlier_firing
  fire_is places m t = ap₂ (λ f N. cond (eqb f.number 0) (step_answer N m t) (refuse f)) (load_is places m) (net_is places)

  pub walk_is : (w : Walk) (places m : ℕ) → load_walk w places m net ≡ earlier_load_walk w places m net
  unfolding load_walk load_answer earlier_load_walk
  walk_is w places m = ap₂ (λ f N. cond (granted (refuse f)) (started_at N m) w) (load_is places m) (net_is places)
