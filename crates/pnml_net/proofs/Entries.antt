-- The entries of transitions: action and mark of a record as one number, and as the net of a table has them. Assumes nothing.
use mathlib.Core.Path.{◌≡◌, refl, sym, ap, ap₂, ◌∙◌}
use mathlib.Core.Bool.{true, cond}
use mathlib.Core.List.{List}
use Prim.Native.Nat.{ℕ, zero, suc, ◌+◌, ◌*◌, ◌^◌, ◌≤◌, ◌<◌}
use native.Mathlib.Nat.{add_assoc}
use native.Mathlib.Omega.{arith}
use lib.Dec.{eqb}
use Rattle.tables.specs.Bytes.{field}
use Rattle.tables.proofs.Numbers.{Bytes, field_split, field_lt}
use Rattle.net.specs.Table.{action_at, mark_at, optional_at, transitions, net_of, table_sized}
use Rattle.net.proofs.Answers.{decoded_action, decoded_optional}
use Rattle.pnml_net.specs.Nets.{entry_by, entry_of}

-- ---- in a table

-- three bytes are two and one above them
three_bytes : (l : List ℕ) (t : ℕ) → field 3 (t * 24 + 16) l ≡ action_at l t + 65536 * mark_at l t
unfolding action_at mark_at
three_bytes l t =
    field_split 2 1 (t * 24 + 16) l
    ∙ ap (λ (k : ℕ). field 2 (t * 24 + 16) l + 65536 * field 1 k l) (add_assoc (t * 24) 16 2)

marked : (m : ℕ) → m ≤ 1 → cond (eqb m 1) 65536 0 ≡ 65536 * m
marked zero h = refl
marked (suc zero) h = refl
marked (suc (suc m)) h = absurd (omega arith)

-- the entry is these three bytes
pub entry_field : (l : List ℕ) (t : ℕ) → mark_at l t ≤ 1 → entry_by (action_at l t) (optional_at l t) ≡ field 3 (t * 24 + 16) l
unfolding entry_by optional_at
entry_field l t h = ap (λ (x : ℕ). action_at l t + x) (marked (mark_at l t) h) ∙ sym (three_bytes l t)

module _ (l : List ℕ) (bytes : Bytes l) (t : ℕ) where
  action_low : action_at l t < 256 ^ 2
  unfolding action_at
  action_low = field_lt 2 (t * 24 + 16) l bytes

  pub entry_most : mark_at l t ≤ 1 → entry_by (action_at l t) (optional_at l t) ≤ 131071
  entry_most h = omega (arith, entry_field l t h, three_bytes l t, action_low)

  pub mark_low : field 3 (t * 24 + 16) l ≤ 131071 → mark_at l t ≤ 1
  mark_low h = omega (arith, three_bytes l t, action_low)

-- ---- in the net of a table

pub entry_decoded : (places : ℕ) (l : List ℕ) → table_sized l ≡ true → (t : ℕ) → t < transitions l
    → entry_of (net_of places l) t ≡ entry_by (action_at l t) (optional_at l t)
unfolding entry_of
entry_decoded places l s t h = ap₂ entry_by (decoded_action places l s t h) (decoded_optional places l s t h)
