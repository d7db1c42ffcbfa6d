-- Bytes of a table that are stored into a room one after the other. Assumes nothing.
use mathlib.Core.Path.{◌≡◌, refl, sym, ap, ap₂, ◌∙◌}
use mathlib.Core.List.{List, [], ◌∷◌}
use Prim.Native.Nat.{ℕ, ◌+◌, ◌≤◌, ◌<◌}
use native.Mathlib.Nat.{le_antisymm}
use native.Mathlib.Numerals.{add-one}
use native.Mathlib.Omega.{arith}
use lib.ListN.{length, get_or, set, take, drop, length-drop, length-set}
use lib.Seq.{sets, get_or-drop, take-suc, length-take-le}
use Rattle.texts.proofs.Buffers.{sets_append}

-- the room with the first k bytes from an offset of the table on
pub record Copied (table : List ℕ) (from : ℕ) (room₀ : List ℕ) (at k : ℕ) (room : List ℕ) : Type 0 where
  pub size : length room ≡ length room₀
  pub stored : room ≡ sets room₀ at (take k (drop from table))

pub copied_none : (table : List ℕ) (from : ℕ) (room : List ℕ) (at : ℕ) → Copied table from room at 0 room
copied_none table from room at = record { size = refl; stored = refl }

module _ {table : List ℕ} {from : ℕ} {room₀ : List ℕ} {at k : ℕ} {room : List ℕ} (c : Copied table from room₀ at k room) where
  pub copied_more : from + k < length table → Copied table from room₀ at (k + 1) (set room (at + k) (get_or table (from + k) 0))
  copied_more h =
      record {
        size = length-set room (at + k) (get_or table (from + k) 0) ∙ c.size;
        stored =
            ap₂ (λ (m : List ℕ) (x : ℕ). set m (at + k) x) c.stored (sym (get_or-drop from table k 0))
            ∙ ap (λ (j : ℕ). set (sets room₀ at (take k part)) (at + j) (get_or part k 0)) (sym (length-take-le k part (omega (arith, inside))))
            ∙ sets_append (take k part) (get_or part k 0 ∷ []) room₀ at
            ∙ ap (λ (ws : List ℕ). sets room₀ at ws) (sym (ap (λ (j : ℕ). take j part) (add-one k) ∙ take-suc part k 0 inside));
      }
    where
      part : List ℕ
      part = drop from table

      inside : k < length (drop from table)
      inside = rw (length-drop from table) (omega arith)

  pub copied_all : {n : ℕ} → k ≤ n → n ≤ k → room ≡ sets room₀ at (take n (drop from table))
  copied_all p q = c.stored ∙ ap (λ (x : ℕ). sets room₀ at (take x (drop from table))) (le_antisymm p q)
