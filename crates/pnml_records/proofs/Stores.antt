-- Records that are stored into a list one after the other. For any list and values. Assumes nothing.
use mathlib.Core.Path.{◌≡◌, refl, sym, ap, ap₂, ◌∙◌}
use mathlib.Core.List.{List, ◌++◌}
use Prim.Native.Nat.{ℕ, zero, suc, ◌+◌, ◌*◌}
use native.Mathlib.Nat.{zero-add, suc-mul}
use native.Mathlib.Numerals.{add-one}
use native.Mathlib.Omega.{arith}
use lib.ListN.{length, get_or, length-append}
use lib.Seq.{sets}
use Rattle.stores.specs.Low.{low_bytes}
use Rattle.stores.proofs.Stores.{after, after_low}
use Rattle.net.specs.Table.{transition_size}
use Rattle.pnml_net.specs.Nets.{record_bytes}
use Rattle.pnml_net.proofs.Fields.{record_length}
use Rattle.pnml_records.specs.Records.{records_by}

-- the four fields of a record
pub record_put : (l : List ℕ) {l₁ l₂ l₃ l₄ : List ℕ} (i pre post entry : ℕ) → l₁ ≡ sets l i (low_bytes 8 pre)
    → l₂ ≡ sets l₁ (i + 8) (low_bytes 8 post) → l₃ ≡ sets l₂ (i + 16) (low_bytes 3 entry) → l₄ ≡ sets l₃ (i + 19) (low_bytes 5 0)
    → l₄ ≡ sets l i (record_bytes pre post entry)
unfolding record_bytes
record_put l {l₁} {l₂} i pre post entry p q r s =
    after_low l i 8 pre (low_bytes 8 post ++ (low_bytes 3 entry ++ low_bytes 5 0)) refl p
    (after_low l₁ (i + 8) 8 post (low_bytes 3 entry ++ low_bytes 5 0) (omega arith) q
    (after_low l₂ (i + 16) 3 entry (low_bytes 5 0) (omega arith) r s))

module _ (pre post action : List ℕ) where
  pub by_length : (t : ℕ) → length (records_by pre post action t) ≡ t * transition_size
  unfolding records_by
  by_length zero = refl
  by_length (suc t) =
      length-append (records_by pre post action t) (record_bytes (get_or pre t 0) (get_or post t 0) (get_or action t 0))
      ∙ ap₂ ◌+◌ (by_length t) (record_length (get_or pre t 0) (get_or post t 0) (get_or action t 0))
      ∙ sym (suc-mul t transition_size)

  -- one record more
  pub next_record : (l : List ℕ) {l₁ l₂ : List ℕ} (t : ℕ) → l₁ ≡ sets l 0 (records_by pre post action t)
      → l₂ ≡ sets l₁ (t * transition_size) (record_bytes (get_or pre t 0) (get_or post t 0) (get_or action t 0))
      → l₂ ≡ sets l 0 (records_by pre post action (t + 1))
  unfolding records_by
  next_record l t p q =
      after l 0 (records_by pre post action t) (record_bytes (get_or pre t 0) (get_or post t 0) (get_or action t 0))
      (sym (zero-add (length (records_by pre post action t)) ∙ by_length t)) p q
      ∙ ap (λ (k : ℕ). sets l 0 (records_by pre post action k)) (sym (add-one t))
