-- Records of the file as they are written into the room, one after the other. Assumes nothing.
use mathlib.Core.Path.{◌≡◌, refl, sym, ap, ap₂, ◌∙◌}
use mathlib.Core.Bool.{Bool, true, false, cond}
use mathlib.Core.List.{List, ◌++◌}
use Prim.Native.Nat.{ℕ, ◌+◌, ◌*◌, ◌≤◌, ◌<◌}
use native.Mathlib.Nat.{le_antisymm}
use native.Mathlib.Numerals.{add-one}
use native.Mathlib.Omega.{arith}
use lib.ListN.{length, take, drop, replicate, length-append}
use lib.Seq.{sets}
use Rattle.tables.specs.Below.{count_below}
use Rattle.tables.proofs.Counts.{record_inside}
use Rattle.tables.proofs.Parts.{length_part}
use Rattle.tables.proofs.Tests.{if_true, if_false}
use Rattle.stores.specs.Low.{low_bytes}
use Rattle.stores.proofs.Stores.{after, sets_front}
use Rattle.stores.proofs.Laid.{Stored, stored_none, stored_next, stored_all}
use Rattle.category.specs.Records.{count}
use Rattle.category_borrowed.specs.Files.{borrows, valid}
use Rattle.category_borrowed.specs.Lookup.{source_at}
use Rattle.category_borrowed.specs.Converted.{with_text, converted_record, converted, rewritten}
use Rattle.category_borrowed.proofs.Blocks.{length_to, length_converted}

-- ---- one record

module _ (file room : List ℕ) (i : ℕ) where
  -- its action, six zero bytes, a text
  pub text_written : (s : ℕ) {r₁ r₂ r₃ : List ℕ} → i < count file → r₁ ≡ sets room (i * 32) (take 2 (drop (i * 32) file))
      → r₂ ≡ sets r₁ (i * 32 + 2) (low_bytes 6 0) → r₃ ≡ sets r₂ (i * 32 + 8) (take 24 (drop (s * 32 + 8) file))
      → r₃ ≡ sets room (i * 32) (with_text file i s)
  unfolding with_text low_bytes
  text_written s l p q r =
      after room (i * 32) (action ++ replicate 6 0) (take 24 (drop (s * 32 + 8) file)) (ap (λ (x : ℕ). i * 32 + x) (sym eight))
      (after room (i * 32) action (replicate 6 0) (ap (λ (x : ℕ). i * 32 + x) (sym two)) p q) r
    where
      action : List ℕ
      action = take 2 (drop (i * 32) file)

      two : length action ≡ 2
      two = length_part 2 (i * 32) file (omega (arith, record_inside 32 (length file) i l))

      eight : length (action ++ replicate 6 0) ≡ 8
      eight = length-append action (replicate 6 0) ∙ ap (λ (x : ℕ). x + 6) two

  -- one that borrows, with the text of its source
  pub lent_written : (s : ℕ) {r : List ℕ} → borrows file i ≡ true → s ≡ source_at file i → r ≡ sets room (i * 32) (with_text file i s)
      → (r ≡ sets room (i * 32) (converted_record file i)) × (true ≡ borrows file i)
  unfolding converted_record
  lent_written s b e p = (p ∙ ap (sets room (i * 32)) (ap (with_text file i) e ∙ sym (if_true _ _ _ b)), sym b)

  -- any other, as it is
  pub own_written : {r : List ℕ} → borrows file i ≡ false → r ≡ sets room (i * 32) (take 32 (drop (i * 32) file))
      → (r ≡ sets room (i * 32) (converted_record file i)) × (false ≡ borrows file i)
  unfolding converted_record
  own_written b p = (p ∙ ap (sets room (i * 32)) (sym (if_false _ _ _ b)), sym b)

-- ---- all records

-- the first i are written, and k of them were rewritten
pub record Written (file room₀ : List ℕ) (room : List ℕ) (k i : ℕ) : Type 0 where
  pub inside : i ≤ count file
  pub records : Stored (converted_record file) room₀ 0 room i
  pub number : k ≡ count_below (borrows file) i
  pub most : k ≤ i

pub written_none : (file room : List ℕ) → Written file room room 0 0
unfolding count_below
written_none file room = record { inside = omega arith; records = stored_none (converted_record file) room 0; number = refl; most = omega arith }

module _ {file room₀ room : List ℕ} {k i : ℕ} (v : valid file ≡ true) (w : Written file room₀ room k i) where
  pub written_next : {r : List ℕ} {k' : ℕ} (b : Bool) → b ≡ borrows file i → i < count file → r ≡ sets room (i * 32) (converted_record file i)
      → k' ≡ k + cond b 1 0 → Written file room₀ r k' (i + 1)
  unfolding count_below
  written_next b p l q e =
      record {
        inside = omega arith;
        records = stored_next w.records (i * 32) (omega (arith, length_to file v i w.inside)) q;
        number = e ∙ ap₂ (λ (x : ℕ) (y : Bool). x + cond y 1 0) w.number p ∙ ap (count_below (borrows file)) (sym (add-one i));
        most = omega (arith, w.most, e, once b);
      }
    where
      once : (t : Bool) → cond t 1 0 ≤ 1
      once true = omega arith
      once false = omega arith

  pub written_all : count file ≤ i → length file ≤ length room₀ → (room ≡ converted file ++ drop (length file) room₀) × (k ≡ rewritten file)
  unfolding converted rewritten
  written_all l h =
      let s : length (converted file) ≡ length file = length_converted file v in (
        stored_all w.records w.inside l ∙ sets_front room₀ (converted file) (omega arith) ∙ ap (λ (x : ℕ). converted file ++ drop x room₀) s,
        w.number ∙ ap (count_below (borrows file)) (le_antisymm w.inside l),
      )
