-- The answers of loading and of the single firing: what each way through the code has found fixes the answer. Assumes nothing.
use mathlib.Core.Path.{◌≡◌, refl, sym, ap, ap₂, ◌∙◌}
use mathlib.Core.Bool.{Bool, true, false, cond, not, ◌&&◌}
use mathlib.Core.List.{List}
use Prim.Native.Nat.{ℕ, ◌/◌, ◌≤◌, ◌<◌}
use native.Mathlib.Nat.{le_trans, le_of_eq}
use native.Mathlib.Omega.{arith}
use lib.ListN.{length}
use lib.Dec.{eqb, ltb}
use borrow.Author.Tests.{lt-ltb, le-ltb, not-true, not-false, eqb-true, eqb-false}
use Rattle.bitset.specs.Sets.{member, within}
use Rattle.bitset.proofs.Relations.{member_collect}
use Rattle.tables.specs.Faults.{scan_fault}
use Rattle.tables.specs.Lists.{first}
use Rattle.tables.specs.Sizes.{sized}
use Rattle.tables.proofs.Tests.{if_true, if_false}
use Rattle.tables.proofs.Counts.{sized_most}
use Rattle.tables.proofs.Scans.{scan_passed}
use Rattle.tables.proofs.Entries.{get_d_up_to}
use Rattle.net.specs.declared.Net.{Net}
use Rattle.net.specs.declared.Refusal.{Refusal}
use Rattle.net.specs.declared.Refusal.TheVariants.{Places, Size, Record, Marking, Absent, Disabled}
use Rattle.std.proofs.Common.{Result, Ok, Err}
use Rattle.tables.specs.declared.TableFault.{TableFault}
use Rattle.tables.specs.declared.TableFault.TheVariants.{Size as TableSize, Record as TableRecord}
use Rattle.tables.specs.Checks.{checked as records_checked, told, answered}
use Rattle.tables.proofs.Checks.{checked_fault}
use Rattle.net.specs.Step.{pre_of, post_of, action_of, enabled_by, missing_by, occupied_by, fired_by, missing, occupied, fired}
use Rattle.net.specs.Table.{pre_at, post_at, action_at, optional_at, transitions, net_of, places_good, table_sized, record_bad}
use Rattle.net.specs.Answer.{Fault, no_fault, fault, Answer, refuse, grant, disabled_by, refused, refusal, of_table, checked, or_else, table_fault, load_fault, disabled, step_answer, firing}
use Rattle.net.proofs.Loops.{enabled_in}

-- ---- 2 and 3

-- the check of the table's records has the table's fault
pub table_checked : (places : ℕ) (bytes : List ℕ) {r : Result ℕ TableFault} → r ≡ records_checked 24 1 64 (record_bad places bytes) (length bytes)
    → answered 2 3 r ≡ table_fault places bytes
unfolding table_fault
table_checked places bytes e = ap (answered 2 3) e ∙ checked_fault 24 1 64 (record_bad places bytes) (length bytes) 2 3

pub table_told : (f : TableFault) → checked (Err (of_table f)) ≡ told 2 3 f
unfolding checked refused told
table_told TableSize = refl
table_told (TableRecord r) = refl

-- ---- 1 and 7

-- each refusal has a number
pub refusal_number : (r : Refusal) → eqb (refusal r).number 0 ≡ false
unfolding refused
refusal_number Places = refl
refusal_number Size = refl
refusal_number (Record r) = refl
refusal_number Marking = refl
refusal_number Absent = refl
refusal_number (Disabled a b) = refl

-- each but 41 has no sets
refused_plain : (r : Refusal) → ((refusal r).number ≡ 41 → ⊥) → refused r ≡ refuse (refusal r)
unfolding refused
refused_plain Places d = refl
refused_plain Size d = refl
refused_plain (Record r) d = refl
refused_plain Marking d = refl
refused_plain Absent d = refl
refused_plain (Disabled a b) d = absurd (d refl)

module _ (places m : ℕ) (bytes : List ℕ) where
  rest : Fault
  rest = or_else (table_fault places bytes) (cond (within places m) no_fault (fault 7 0))

  pub load_places : not (places_good places) ≡ true → fault 1 0 ≡ load_fault places m bytes
  unfolding load_fault rest
  load_places h = sym (ap (λ b. cond b rest (fault 1 0)) (not-true (places_good places) h))

  placed : not (places_good places) ≡ false → load_fault places m bytes ≡ rest
  unfolding load_fault rest
  placed h = ap (λ b. cond b rest (fault 1 0)) (not-false (places_good places) h)

  pub load_table : not (places_good places) ≡ false → (r : Refusal) → checked (Err r) ≡ table_fault places bytes
      → checked (Err r) ≡ load_fault places m bytes
  unfolding rest checked
  load_table h r e =
      sym
      (placed h
      ∙ ap (λ f. or_else f (cond (within places m) no_fault (fault 7 0))) (sym e)
      ∙ ap (λ b. cond b (cond (within places m) no_fault (fault 7 0)) (refusal r)) (refusal_number r))

  loaded : not (places_good places) ≡ false → checked (Ok tt) ≡ table_fault places bytes → load_fault places m bytes ≡ cond (within places m) no_fault (fault 7 0)
  unfolding rest checked
  loaded h e = placed h ∙ ap (λ f. or_else f (cond (within places m) no_fault (fault 7 0))) (sym e)

  pub load_good : not (places_good places) ≡ false → checked (Ok tt) ≡ table_fault places bytes → within places m ≡ true
      → no_fault ≡ load_fault places m bytes
  load_good h e w = sym (loaded h e ∙ ap (λ b. cond b no_fault (fault 7 0)) w)

  pub load_marking : not (places_good places) ≡ false → checked (Ok tt) ≡ table_fault places bytes → within places m ≡ false
      → fault 7 0 ≡ load_fault places m bytes
  load_marking h e w = sym (loaded h e ∙ ap (λ b. cond b no_fault (fault 7 0)) w)

  -- what a net and a marking that are loaded have passed
  passes : (p w : Bool) (f : Fault) → no_fault ≡ cond p (or_else f (cond w no_fault (fault 7 0))) (fault 1 0)
      → (p ≡ true) × (w ≡ true) × (f.number ≡ 0)
  passes true w f e = by (eqb f.number 0) refl w e
    where
      by : (b : Bool) → eqb f.number 0 ≡ b → (w : Bool) → no_fault ≡ cond b (cond w no_fault (fault 7 0)) f
          → (true ≡ true) × (w ≡ true) × (f.number ≡ 0)
      by true q true e = (refl, refl, eqb-true f.number 0 q)
      by true q false e = absurd (let z : ◌≡◌ {A = ℕ} 0 7 = ap (λ x. x.number) e in omega arith)
      by false q w e = absurd (eqb-false f.number 0 q (sym (ap (λ x. x.number) e)))
  passes false w f e = absurd (let z : ◌≡◌ {A = ℕ} 0 1 = ap (λ x. x.number) e in omega arith)

  pub load_passed : no_fault ≡ load_fault places m bytes
      → (places_good places ≡ true) × (table_sized bytes ≡ true) × ((t : ℕ) → t < transitions bytes → record_bad places bytes t ≡ false)
      × (within places m ≡ true)
  unfolding load_fault table_fault table_sized transitions
  load_passed e =
      let r : (places_good places ≡ true) × (within places m ≡ true) × ((table_fault places bytes).number ≡ 0) = passes _ _ _ e in
      let s = scan_passed 2 3 24 1 64 (record_bad places bytes) (length bytes) (λ q. omega arith) (λ q. omega arith) r.2 in
      (r.0, s.0, s.1, r.1)

  -- all that loading can meet
  pub load_cases : (P : Fault → Type 0) → P no_fault → P (fault 1 0) → P (fault 2 0) → ((k : ℕ) → P (fault 3 k)) → P (fault 7 0)
      → P (load_fault places m bytes)
  unfolding load_fault table_fault scan_fault
  load_cases P none one two three seven =
      let n = length bytes / 24 in
      let f = first (record_bad places bytes) n in
      by (places_good places) (sized 24 1 64 (length bytes)) (ltb f n) (within places m) f
    where
      by : (p s b w : Bool) (k : ℕ) → P (cond p (or_else (cond s (cond b (fault 3 k) no_fault) (fault 2 0)) (cond w no_fault (fault 7 0))) (fault 1 0))
      by true true true w k = three k
      by true true false true k = none
      by true true false false k = seven
      by true false b w k = two
      by false s b w k = one

  -- it does not meet 41
  pub load_other : (load_fault places m bytes).number ≡ 41 → ⊥
  load_other =
      load_cases (λ (f : Fault). f.number ≡ 41 → ⊥) (λ e. omega (arith, e)) (λ e. omega (arith, e)) (λ e. omega (arith, e)) (λ k e. omega (arith, e))
      (λ e. omega (arith, e))

  -- so what it meets comes without sets
  pub load_plain : (r : Refusal) → checked (Err r) ≡ load_fault places m bytes → refused r ≡ refuse (load_fault places m bytes)
  unfolding checked
  load_plain r e = refused_plain r (λ h. load_other (ap (λ f. f.number) (sym e) ∙ h)) ∙ ap refuse e

-- ---- the decoded net

-- it has at most 64 transitions
pub decoded_few : (places : ℕ) (bytes : List ℕ) (d : Net) → d ≡ net_of places bytes → table_sized bytes ≡ true → d.transitions ≤ 64
unfolding net_of table_sized transitions
decoded_few places bytes d e h = le_trans (le_of_eq (ap (λ x. x.transitions) e)) (sized_most 24 1 64 (length bytes) h)

module _ (places : ℕ) (bytes : List ℕ) (sized : table_sized bytes ≡ true) (t : ℕ) (h : t < transitions bytes) where
  count_most : transitions bytes ≤ 64
  unfolding table_sized transitions
  count_most = sized_most 24 1 64 (length bytes) sized

  pub decoded_pre : pre_of (net_of places bytes) t ≡ pre_at bytes t
  unfolding net_of
  decoded_pre = get_d_up_to (pre_at bytes) (transitions bytes) 64 t h count_most

  pub decoded_post : post_of (net_of places bytes) t ≡ post_at bytes t
  unfolding net_of
  decoded_post = get_d_up_to (post_at bytes) (transitions bytes) 64 t h count_most

  pub decoded_action : action_of (net_of places bytes) t ≡ action_at bytes t
  unfolding net_of
  decoded_action = get_d_up_to (action_at bytes) (transitions bytes) 64 t h count_most

  pub decoded_optional : member (net_of places bytes).optional t ≡ optional_at bytes t
  unfolding net_of
  decoded_optional = member_collect (optional_at bytes) (transitions bytes) t ∙ ap (λ b. b && optional_at bytes t) (lt-ltb t (transitions bytes) h)

-- ---- the single firing

-- a step with these sets
step_by : (pre post m : ℕ) → Answer
step_by pre post m = cond (enabled_by pre post m) (grant (fired_by pre post m)) (disabled_by (missing_by pre m) (occupied_by pre post m))

-- of a transition of the net
step_in : (N : Net) (m t : ℕ) → t < N.transitions → step_answer N m t ≡ step_by (pre_of N t) (post_of N t) m
unfolding step_answer disabled missing occupied fired step_by
step_in N m t h =
    if_true _ _ _ (lt-ltb t N.transitions h)
    ∙ ap (λ b. cond b (grant (fired N m t)) (disabled N m t)) (enabled_in N m t h)

module _ (places m : ℕ) (bytes : List ℕ) (t : ℕ) where
  pub fire_refused : (r : Refusal) → checked (Err r) ≡ load_fault places m bytes → refused r ≡ firing places m bytes t
  unfolding firing checked
  fire_refused r e = load_plain places m bytes r e ∙ sym (if_false _ _ _ (ap (λ f. eqb f.number 0) (sym e) ∙ refusal_number r))

  module _ (e : checked (Ok tt) ≡ load_fault places m bytes) where
    stepped : firing places m bytes t ≡ step_answer (net_of places bytes) m t
    unfolding firing checked
    stepped = ap (λ f. cond (eqb f.number 0) (step_answer (net_of places bytes) m t) (refuse f)) (sym e)

    pub fire_absent : transitions bytes ≤ t → refuse (fault 8 0) ≡ firing places m bytes t
    unfolding step_answer net_of
    fire_absent h = sym (stepped ∙ if_false _ _ _ (le-ltb t (transitions bytes) h))

    module _ (h : t < transitions bytes) (pre post : ℕ) (p : pre ≡ pre_at bytes t) (q : post ≡ post_at bytes t) where
      fire-by : step_by pre post m ≡ firing places m bytes t
      unfolding net_of checked
      fire-by =
          let whole = (load_passed places m bytes e).1 in
          ap₂ (λ (a b : ℕ). step_by a b m) (p ∙ sym (decoded_pre places bytes whole t h)) (q ∙ sym (decoded_post places bytes whole t h))
          ∙ sym (stepped ∙ step_in (net_of places bytes) m t h)

      pub fire-enabled : enabled_by pre post m ≡ true → grant (fired_by pre post m) ≡ firing places m bytes t
      unfolding step_by
      fire-enabled b = sym (if_true _ _ _ b) ∙ fire-by

      pub fire_disabled : enabled_by pre post m ≡ false → disabled_by (missing_by pre m) (occupied_by pre post m) ≡ firing places m bytes t
      unfolding step_by
      fire_disabled b = sym (if_false _ _ _ b) ∙ fire-by
