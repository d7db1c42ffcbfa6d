-- Ascending actions: each is below all after it. Assumes nothing.
use mathlib.Core.Path.{◌≡◌, sym, subst}
use mathlib.Core.Bool.{true, false}
use mathlib.Core.Logic.{◌⊎◌, inl, inr}
use mathlib.Core.List.{List}
use Prim.Native.Nat.{ℕ, zero, suc, ◌-◌, ◌<◌}
use native.Mathlib.Nat.{not-suc-le-zero, eq-or-lt_of_le, le_of_suc-le-suc}
use native.Mathlib.Omega.{arith}
use lib.Dec.{eqb}
use borrow.Author.Tests.{ltb-true, ne_eqb}
use Rattle.category.specs.Records.{action_at}
use Rattle.category.specs.Faults.{ascends}

-- the first n records have strictly ascending actions
pub record Rising (file : List ℕ) (n : ℕ) : Type 0 where
  pub rises : (j k : ℕ) → j < k → k < n → action_at file j < action_at file k

-- a record that is not the first
step : (file : List ℕ) (k : ℕ) → ascends file (suc k) ≡ true → action_at file k < action_at file (suc k)
unfolding ascends
step file k e =
    let z : eqb (suc k) 0 ≡ false = ne_eqb (suc k) 0 (λ q. omega arith) in
    let p : suc k - 1 ≡ k = omega arith in
    ltb-true (action_at file k) (action_at file (suc k)) (rw (z, p) at e)

pub rising : (file : List ℕ) (n : ℕ) → ((k : ℕ) → k < n → ascends file k ≡ true) → Rising file n
rising file n h = record { rises = go }
  where
    go : (j k : ℕ) → j < k → k < n → action_at file j < action_at file k
    go j zero l m = absurd (not-suc-le-zero l)
    go j (suc k) l m = by (go j k) (eq-or-lt_of_le (le_of_suc-le-suc l))
      where
        next : action_at file k < action_at file (suc k)
        next = step file k (h (suc k) m)

        by : (j < k → k < n → action_at file j < action_at file k) → (j ≡ k) ⊎ (j < k) → action_at file j < action_at file (suc k)
        by ih (inl e) = subst (λ (x : ℕ). action_at file x < action_at file (suc k)) (sym e) next
        by ih (inr q) = let a : action_at file j < action_at file k = ih q (omega arith) in omega (arith, next)
