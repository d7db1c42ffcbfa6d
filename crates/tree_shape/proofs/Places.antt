-- Truth and trees do not depend on how many places a net has: the code leaves the number out. Assumes nothing.
use mathlib.Core.Path.{◌≡◌, refl, ap, ap₂, ◌∙◌}
use mathlib.Core.Bool.{Bool, cond, not, ◌&&◌}
use mathlib.Core.List.{List}
use Prim.Native.Nat.{ℕ, zero, suc}
use lib.Dec.{ltb}
use Rattle.tables.specs.Below.{some_below}
use Rattle.tables.proofs.Entries.{first_ext}
use Rattle.net.specs.Step.{enabled, fired}
use Rattle.net.specs.Table.{transitions, net_of}
use Rattle.pctl.specs.Table.{operator_at}
use Rattle.pctl.specs.Formula.{Formula, read_to}
use Rattle.pctl.specs.Formula.Formula.{truth, neg, conj, step, some_until, all_until}
use Rattle.tree_shape.specs.Evaluation.{offered, evaluated}
use Rattle.tree_shape.specs.Trees.{Trees}
use Rattle.tree_shape.specs.Trees.Trees.{none}
use Rattle.tree_shape.specs.Chosen.{lowest, holdsBy, failsBy, claimBy, treeTo, tree_of, truth_of, side_of, chosen}
use Rattle.tree_shape.proofs.Steps.{Same, claim_same}

module _ (p q : ℕ) (net : List ℕ) where
  evaluated_places : (A : Formula) (m : ℕ) → evaluated (net_of p net) A m ≡ evaluated (net_of q net) A m
  unfolding evaluated enabled fired net_of some_below
  evaluated_places truth m = refl
  evaluated_places (neg A) m = ap not (evaluated_places A m)
  evaluated_places (conj A B) m = ap₂ ◌&&◌ (evaluated_places A m) (evaluated_places B m)
  evaluated_places (step a A) m =
      ap (λ (k : ℕ). ltb k (transitions net))
      (first_ext _ _ (transitions net) (λ t h. ap (λ b. offered (net_of p net) a m t && b) (evaluated_places A (fired (net_of p net) m t))))
  evaluated_places (some_until A B) m = refl
  evaluated_places (all_until A B) m = refl

  module _ (F : List ℕ) where
    claim_places : (T : (side f m : ℕ) → Trees → Trees) (U : (f m : ℕ) → Bool) (f m side : ℕ) (b : Trees)
        → claimBy (net_of p net) F T U f m side b ≡ claimBy (net_of q net) F T U f m side b
    unfolding claimBy lowest offered enabled fired net_of
    claim_places T U f m zero b = by (operator_at F f)
      where
        by : (op : ℕ) → holdsBy (net_of p net) F T U f m op b ≡ holdsBy (net_of q net) F T U f m op b
        by zero = refl
        by (suc zero) = refl
        by (suc (suc zero)) = refl
        by (suc (suc (suc n))) = refl
    claim_places T U f m (suc s) b = by (operator_at F f)
      where
        by : (op : ℕ) → failsBy (net_of p net) F T U f m op b ≡ failsBy (net_of q net) F T U f m op b
        by zero = refl
        by (suc zero) = refl
        by (suc (suc zero)) = refl
        by (suc (suc (suc n))) = refl

    tree_places : (d side f m : ℕ) (b : Trees) → treeTo (net_of p net) F d side f m b ≡ treeTo (net_of q net) F d side f m b
    unfolding treeTo
    tree_places zero side f m b = refl
    tree_places (suc d) side f m b =
        claim_same (net_of p net) F (treeTo (net_of p net) F d) (treeTo (net_of q net) F d) _ _ f m side (λ l. below (tree_places d) _) (λ r. below (tree_places d) _) b
        ∙ claim_places (treeTo (net_of q net) F d) (λ g x. evaluated (net_of q net) (read_to d F g) x) f m side b
      where
        below : ((side f m : ℕ) (b : Trees) → treeTo (net_of p net) F d side f m b ≡ treeTo (net_of q net) F d side f m b) → (g : ℕ)
            → Same (treeTo (net_of p net) F d) (treeTo (net_of q net) F d) (λ g x. evaluated (net_of p net) (read_to d F g) x)
            (λ g x. evaluated (net_of q net) (read_to d F g) x) g
        below ih g = record { trees = λ side x c. ih side g x c; truths = λ x. evaluated_places (read_to d F g) x }

    pub truth_places : (f m : ℕ) → truth_of (net_of p net) F f m ≡ truth_of (net_of q net) F f m
    unfolding truth_of
    truth_places f m = evaluated_places _ m

    pub side_places : (f m : ℕ) → side_of (net_of p net) F f m ≡ side_of (net_of q net) F f m
    unfolding side_of
    side_places f m = ap (λ b. cond b 0 1) (truth_places f m)

    pub chosen_places : (f m : ℕ) → chosen (net_of p net) F f m ≡ chosen (net_of q net) F f m
    unfolding chosen
    chosen_places f m =
        ap (λ (s : ℕ). tree_of (net_of p net) F s f m none) (side_places f m) ∙ tree_places (suc f) (side_of (net_of q net) F f m) f m none
