-- Lists that are stored into a room one after another. For any lists. Assumes nothing.
use mathlib.Core.Path.{◌≡◌, refl, sym, ap, ◌∙◌}
use mathlib.Core.List.{List, [], ◌++◌, append-nil}
use Prim.Native.Nat.{ℕ, ◌+◌, ◌≤◌}
use native.Mathlib.Nat.{le_antisymm}
use native.Mathlib.Numerals.{add-one}
use lib.ListN.{length}
use lib.Seq.{sets, length-sets}
use Rattle.tables.specs.Lists.{laid}
use Rattle.stores.proofs.Stores.{after}

-- the first n lists are stored from an offset on
pub record Stored (e : ℕ → List ℕ) (room₀ : List ℕ) (at : ℕ) (room : List ℕ) (n : ℕ) : Type 0 where
  pub size : length room ≡ length room₀
  pub stored : room ≡ sets room₀ at (laid e n)

pub stored_none : (e : ℕ → List ℕ) (room : List ℕ) (at : ℕ) → Stored e room at room 0
unfolding laid
stored_none e room at = record { size = refl; stored = refl }

module _ {e : ℕ → List ℕ} {room₀ : List ℕ} {at : ℕ} {room : List ℕ} {n : ℕ} (w : Stored e room₀ at room n) where
  -- one more is stored after them
  pub stored_next : {r : List ℕ} (i : ℕ) → i ≡ at + length (laid e n) → r ≡ sets room i (e n) → Stored e room₀ at r (n + 1)
  unfolding laid
  stored_next i p q =
      record {
        size = ap length q ∙ length-sets room i (e n) ∙ w.size;
        stored = after room₀ at (laid e n) (e n) p w.stored q ∙ ap (λ (x : ℕ). sets room₀ at (laid e x)) (sym (add-one n));
      }

  -- one that is empty
  pub stored_skip : e n ≡ [] → Stored e room₀ at room (n + 1)
  unfolding laid
  stored_skip p =
      record {
        size = w.size;
        stored =
            w.stored
            ∙ ap (sets room₀ at) (sym (ap (λ x. laid e n ++ x) p ∙ append-nil (laid e n)))
            ∙ ap (λ (x : ℕ). sets room₀ at (laid e x)) (sym (add-one n));
      }

  -- all are stored
  pub stored_all : {m : ℕ} → n ≤ m → m ≤ n → room ≡ sets room₀ at (laid e m)
  stored_all p q = w.stored ∙ ap (λ (x : ℕ). sets room₀ at (laid e x)) (le_antisymm p q)
