-- The meaning of formulas as it was defined before document 02's F-4: kinds (b) and (c) by the enabled transitions. No contract cites this.
-- Assumes nothing.
use Rattle.std.specs.Prelude.{ℕ, zero, suc, ◌≡◌, true, false, List}
use Rattle.net.specs.declared.Net.{Net}
use Rattle.net.specs.Step.{action_of, enabled, fired}
use Rattle.net.specs.Sequence.{Run, moves, meets}
use Rattle.pctl.specs.Formula.{Formula, formula}
use Rattle.pctl.specs.Formula.Formula.{truth, neg, conj, step, some_until, all_until}

module _ (N : Net) (A B : ℕ → Type 0) where
  -- how a run offended at its last marking e
  pub data EarlierOffence (e : ℕ) : Type 0 where
    -- (a) A is false at the last
    broken : (A e → ⊥) → EarlierOffence e
    -- (b) nothing is enabled at the last
    stuck : ((t : ℕ) → enabled N e t ≡ false) → EarlierOffence e
    -- (c) a non-empty loop leads from the last back to it, B false all along, and each transition enabled there conflicts with one in the loop
    loops : (r : Run N (λ m. B m → ⊥) e e) → moves r ≡ true → ((t : ℕ) → enabled N e t ≡ true → meets t r ≡ true) → EarlierOffence e

  pub record EarlierOffending (m : ℕ) : Type 0 where
    pub last : ℕ
    pub run : Run N (λ x. B x → ⊥) m last
    pub fails : B last → ⊥
    pub offence : EarlierOffence last

-- A held at the marking m
unfoldable pub EarlierHolds : Net → Formula → ℕ → Type 0
EarlierHolds N truth m = Unit {0}
EarlierHolds N (neg A) m = EarlierHolds N A m → ⊥
EarlierHolds N (conj A B) m = EarlierHolds N A m × EarlierHolds N B m
EarlierHolds N (step a A) m = (t : ℕ) × (enabled N m t ≡ true) × (action_of N t ≡ a) × EarlierHolds N A (fired N m t)
EarlierHolds N (some_until A B) m = (e : ℕ) × Run N (EarlierHolds N A) m e × EarlierHolds N B e
EarlierHolds N (all_until A B) m = EarlierOffending N (EarlierHolds N A) (EarlierHolds N B) m → ⊥

-- the claim of a side
unfoldable pub EarlierClaimOf : Net → Formula → ℕ → (side : ℕ) → Type 0
unfolding EarlierHolds
EarlierClaimOf N A m zero = EarlierHolds N A m
EarlierClaimOf N A m (suc n) = EarlierHolds N A m → ⊥

-- the claim that record f of the table holds or fails at m
unfoldable pub EarlierClaim : Net → List ℕ → (m f side : ℕ) → Type 0
unfolding formula EarlierClaimOf
EarlierClaim N F m f side = EarlierClaimOf N (formula F f) m side
