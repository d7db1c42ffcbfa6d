-- Where no transition is optional, a formula holds exactly where it held. Assumes nothing.
use mathlib.Core.Path.{◌≡◌, sym, ◌∙◌}
use mathlib.Core.Bool.{false}
use mathlib.Core.List.{List}
use Prim.Native.Nat.{ℕ, zero, suc, ◌<◌}
use Rattle.bitset.specs.Sets.{member}
use Rattle.net.specs.declared.Net.{Net}
use Rattle.net.proofs.Urgent.{none_urgent}
use Rattle.pctl.specs.Formula.{Formula, formula}
use Rattle.pctl.specs.Formula.Formula.{truth, neg, conj, step, some_until, all_until}
use Rattle.pctl.specs.Meaning.{Offence, Offending, Holds, ClaimOf, Claim}
use Rattle.pctl.specs.Meaning.Offence.{broken, stuck, loops}
use Rattle.pctl.proofs.Visits.{weaken, moves_weaken, meets_weaken}
use Rattle.earlier.specs.Meaning.{EarlierOffence, EarlierOffending, EarlierHolds, EarlierClaimOf, EarlierClaim}
use Rattle.earlier.specs.Meaning.EarlierOffence.{broken as was-broken, stuck as was-stuck, loops as was-loops}

-- ---- offending runs, and what holds

module _ (N : Net) (none : (t : ℕ) → t < N.transitions → member N.optional t ≡ false) where
  module _ (A B C D : ℕ → Type 0) (f : (m : ℕ) → C m → A m) (g : (m : ℕ) → D m → B m) where
    fails : (m : ℕ) → (B m → ⊥) → D m → ⊥
    fails m h d = h (g m d)

    offence_was : {e : ℕ} → Offence N A B e → EarlierOffence N C D e
    offence_was {e} (broken h) = was-broken (λ c. h (f e c))
    offence_was {e} (stuck h) = was-stuck (λ t. sym (none_urgent N none e t) ∙ h t)
    offence_was {e} (loops r m c) =
        was-loops (weaken fails r) (moves_weaken fails r ∙ m) (λ t h. meets_weaken fails t r ∙ c t (none_urgent N none e t ∙ h))

    offends_was : {m : ℕ} → Offending N A B m → EarlierOffending N C D m
    offends_was o = record { last = o.last; run = weaken fails o.run; fails = fails o.last o.fails; offence = offence_was o.offence }

    offence_is : {e : ℕ} → EarlierOffence N A B e → Offence N C D e
    offence_is {e} (was-broken h) = broken (λ c. h (f e c))
    offence_is {e} (was-stuck h) = stuck (λ t. none_urgent N none e t ∙ h t)
    offence_is {e} (was-loops r m c) =
        loops (weaken fails r) (moves_weaken fails r ∙ m) (λ t h. meets_weaken fails t r ∙ c t (sym (none_urgent N none e t) ∙ h))

    offends_is : {m : ℕ} → EarlierOffending N A B m → Offending N C D m
    offends_is o = record { last = o.last; run = weaken fails o.run; fails = fails o.last o.fails; offence = offence_is o.offence }

  -- the formula held where it holds, and holds where it held
  both : (A : Formula) → ((m : ℕ) → Holds N A m → EarlierHolds N A m) × ((m : ℕ) → EarlierHolds N A m → Holds N A m)
  unfolding Holds EarlierHolds
  both truth = (λ m h. h, λ m h. h)
  both (neg A) = let a = both A in (λ m h x. h (a.1 m x), λ m h x. h (a.0 m x))
  both (conj A B) =
      let a = both A in
      let b = both B in
      (λ m h. (a.0 m h.0, b.0 m h.1), λ m h. (a.1 m h.0, b.1 m h.1))
  both (step x A) =
      let a = both A in
      (λ m h. (h.0, h.1, h.2, a.0 _ h.3), λ m h. (h.0, h.1, h.2, a.1 _ h.3))
  both (some_until A B) =
      let a = both A in
      let b = both B in
      (λ m h. (h.0, weaken a.0 h.1, b.0 _ h.2), λ m h. (h.0, weaken a.1 h.1, b.1 _ h.2))
  both (all_until A B) =
      let a = both A in
      let b = both B in (
        λ m h o. h (offends_is (EarlierHolds N A) (EarlierHolds N B) (Holds N A) (Holds N B) a.0 b.0 o),
        λ m h o. h (offends_was (Holds N A) (Holds N B) (EarlierHolds N A) (EarlierHolds N B) a.1 b.1 o),
      )

  claims : (A : Formula) (m side : ℕ) → (ClaimOf N A m side → EarlierClaimOf N A m side) × (EarlierClaimOf N A m side → ClaimOf N A m side)
  unfolding ClaimOf EarlierClaimOf
  claims A m zero = ((both A).0 m, (both A).1 m)
  claims A m (suc n) = (λ h x. h ((both A).1 m x), λ h x. h ((both A).0 m x))

  pub claim_was : (F : List ℕ) (m f side : ℕ) → Claim N F m f side → EarlierClaim N F m f side
  unfolding Claim EarlierClaim
  claim_was F m f side = (claims (formula F f) m side).0

  pub claim_is : (F : List ℕ) (m f side : ℕ) → EarlierClaim N F m f side → Claim N F m f side
  unfolding Claim EarlierClaim
  claim_is F m f side = (claims (formula F f) m side).1
