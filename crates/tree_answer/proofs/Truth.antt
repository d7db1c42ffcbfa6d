-- Truth by evaluation is truth by the meaning of formulas, by induction on the formula. Assumes nothing.
use mathlib.Core.Path.{◌≡◌, refl, sym, ◌∙◌}
use mathlib.Core.Bool.{Bool, true, false, ◌&&◌, true≢false, false≢true}
use Prim.Native.Nat.{ℕ}
use lib.Dec.{eqb, ltb}
use borrow.Author.Tests.{eq-eqb, eqb-true, ltb-true, not-true, not-false}
use Rattle.tables.specs.Lists.{first}
use Rattle.tables.specs.Below.{some_below}
use Rattle.tables.proofs.Entries.{at_first}
use Rattle.tables.proofs.Below.{some_is}
use Rattle.tables.proofs.Tests.{and_left, and_right, and_intro}
use Rattle.net.specs.declared.Net.{Net}
use Rattle.net.specs.Step.{action_of, enabled, fired}
use Rattle.net.proofs.Urgent.{enabled_below}
use Rattle.pctl.specs.Formula.{Formula}
use Rattle.pctl.specs.Formula.Formula.{truth, neg, conj, step, some_until, all_until}
use Rattle.pctl.specs.Meaning.{Holds}
use Rattle.tree_shape.specs.Evaluation.{until_free, offered, evaluated}
use Rattle.tree_answer.specs.Theorem.{EvaluationIsTruth}

module _ (N : Net) where
  -- evaluation decides the formula
  Decides : Formula → ℕ → Type 0
  Decides A m = (evaluated N A m ≡ true → Holds N A m) × (evaluated N A m ≡ false → Holds N A m → ⊥)

  neg_decided : (A : Formula) (m : ℕ) → Decides A m → Decides (neg A) m
  unfolding Decides evaluated Holds
  neg_decided A m d = (λ e. d.1 (not-true (evaluated N A m) e), λ e h. h (d.0 (not-false (evaluated N A m) e)))

  conj_decided : (A B : Formula) (m : ℕ) → Decides A m → Decides B m → Decides (conj A B) m
  unfolding Decides evaluated Holds
  conj_decided A B m a b =
      (λ e. (a.0 (and_left (evaluated N A m) (evaluated N B m) e), b.0 (and_right (evaluated N A m) (evaluated N B m) e)), λ e h. by (evaluated N A m) refl e h)
    where
      by : (x : Bool) → evaluated N A m ≡ x → (x && evaluated N B m) ≡ false → Holds N A m × Holds N B m → ⊥
      by true p e h = b.1 e h.1
      by false p e h = a.1 p h.0

  step_decided : (a : ℕ) (A : Formula) (m : ℕ) → ((x : ℕ) → Decides A x) → Decides (step a A) m
  unfolding Decides evaluated Holds offered some_below
  step_decided a A m d = (found, λ e h. none e h.0 h.1 h.2 h.3)
    where
      does : ℕ → Bool
      does t = enabled N m t && eqb (action_of N t) a && evaluated N A (fired N m t)

      found : ltb (first does N.transitions) N.transitions ≡ true
          → (t : ℕ) × (enabled N m t ≡ true) × (action_of N t ≡ a) × Holds N A (fired N m t)
      found e =
          let t : ℕ = first does N.transitions in
          let p : does t ≡ true = at_first does N.transitions (ltb-true _ _ e) in
          let o : (enabled N m t && eqb (action_of N t) a) ≡ true = and_left (enabled N m t && eqb (action_of N t) a) (evaluated N A (fired N m t)) p in (
            t,
            and_left (enabled N m t) (eqb (action_of N t) a) o,
            eqb-true _ _ (and_right (enabled N m t) (eqb (action_of N t) a) o),
            (d (fired N m t)).0 (and_right (enabled N m t && eqb (action_of N t) a) (evaluated N A (fired N m t)) p),
          )

      none : ltb (first does N.transitions) N.transitions ≡ false → (t : ℕ) → enabled N m t ≡ true → action_of N t ≡ a → Holds N A (fired N m t) → ⊥
      none e t en ac h = by (evaluated N A (fired N m t)) refl
        where
          by : (x : Bool) → evaluated N A (fired N m t) ≡ x → ⊥
          by true p =
              true≢false
              (sym
              (some_is does N.transitions t (enabled_below N m t en)
              (and_intro (enabled N m t && eqb (action_of N t) a) (evaluated N A (fired N m t)) (and_intro (enabled N m t) (eqb (action_of N t) a) en (eq-eqb _ _ ac)) p))
              ∙ e)
          by false p = (d (fired N m t)).1 p h

  decided : (A : Formula) → until_free A ≡ true → (m : ℕ) → Decides A m
  unfolding until_free Decides evaluated Holds
  decided truth u m = (λ e. tt, λ e h. true≢false e)
  decided (neg A) u m = neg_decided A m (decided A u m)
  decided (conj A B) u m =
      conj_decided A B m (decided A (and_left (until_free A) (until_free B) u) m) (decided B (and_right (until_free A) (until_free B) u) m)
  decided (step a A) u m = step_decided a A m (λ x. decided A u x)
  decided (some_until A B) u m = absurd (false≢true u)
  decided (all_until A B) u m = absurd (false≢true u)

pub evaluation_is_truth : EvaluationIsTruth
unfolding EvaluationIsTruth Decides
evaluation_is_truth N A u m = decided N A u m
