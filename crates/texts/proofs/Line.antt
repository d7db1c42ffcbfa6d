-- Words that are written into a buffer one after the other. For any buffer and words. Assumes nothing.
use mathlib.Core.Path.{◌≡◌, refl, sym, ap, ap₂, ◌∙◌, subst⁻¹}
use mathlib.Core.List.{List, [], ◌∷◌, ◌++◌}
use Prim.Native.Nat.{ℕ, ◌+◌, ◌/◌, ◌%◌, ◌≤◌, ◌<◌}
use native.Mathlib.Nat.{zero-add, add_assoc}
use native.Mathlib.Omega.{arith}
use lib.ListN.{length, take, drop, set, length-append}
use lib.Seq.{sets, sets-eq, length-sets, take_at, drop_at}
use Rattle.texts.specs.Text.{decimal}
use Rattle.texts.specs.Line.{Put}
use Rattle.texts.proofs.Digits.{decimal_one, decimal_more}
use Rattle.texts.proofs.Buffers.{sets_append}

-- one word after another
pub join : {l₀ l₁ l₂ : List ℕ} {at mid end : ℕ} {vs ws : List ℕ} → Put l₀ l₁ at vs mid → Put l₁ l₂ mid ws end → Put l₀ l₂ at (vs ++ ws) end
join {l₀} {l₁} {l₂} {at} {mid} {end} {vs} {ws} p q =
    record {
      next = q.next ∙ ap (λ (k : ℕ). k + length ws) p.next ∙ add_assoc at (length vs) (length ws) ∙ ap (λ (k : ℕ). at + k) (sym (length-append vs ws));
      bytes = q.bytes ∙ ap₂ (λ (l : List ℕ) (k : ℕ). sets l k ws) p.bytes p.next ∙ sets_append vs ws l₀ at;
      room = q.room;
    }

-- one byte
one : (l : List ℕ) (at v : ℕ) → at < 40 → Put l (set l at v) at (v ∷ []) (at + 1)
one l at v h = record { next = refl; bytes = refl; room = omega arith }

-- a line in a buffer of 40 bytes: its bytes stand in front, and the others stay
pub whole : {l₀ l₁ vs : List ℕ} {r : ℕ} → length l₀ ≡ 40 → Put l₀ l₁ 0 vs r → (r ≤ length l₁) × (take r l₁ ≡ vs) × (drop r l₁ ≡ drop r l₀)
whole {l₀} {l₁} {vs} {r} h p =
    let e : length vs ≡ r = sym (p.next ∙ zero-add (length vs)) in
    let all : l₁ ≡ vs ++ drop r l₀ =
    p.bytes ∙ sets-eq vs l₀ 0 (omega (arith, p.room)) ∙ ap (λ (k : ℕ). vs ++ drop k l₀) (zero-add (length vs) ∙ e) in (
      omega (arith, p.room, ap length p.bytes ∙ length-sets l₀ 0 vs),
      ap (λ (l : List ℕ). take r l) all ∙ take_at vs (drop r l₀) r e,
      ap (λ (l : List ℕ). drop r l) all ∙ drop_at vs (drop r l₀) r e,
    )

-- ---- a number, digit by digit

pub number_one : (l : List ℕ) (at n : ℕ) → at < 40 → n < 10 → Put l (set l at (48 + n)) at (decimal n) (at + 1)
number_one l at n k h = subst⁻¹ (λ (vs : List ℕ). Put l (set l at (48 + n)) at vs (at + 1)) (decimal_one n h) (one l at (48 + n) k)

pub number_more : {l l' : List ℕ} {at r : ℕ} (n : ℕ) → 10 ≤ n → r < 40 → Put l l' at (decimal (n / 10)) r → Put l (set l' r (48 + n % 10)) at (decimal n) (r + 1)
number_more {l} {l'} {at} {r} n h k p =
    subst⁻¹ (λ (vs : List ℕ). Put l (set l' r (48 + n % 10)) at vs (r + 1)) (decimal_more n h) (join p (one l' r (48 + n % 10) k))

-- the room for a number has room for one digit, and for all digits but the last and then for the last
pub room_one : (at n m : ℕ) → n < 10 → at + length (decimal n) ≤ m → at < m
room_one at n m h p = let e = ap length (decimal_one n h) in omega arith

pub room_more : (at n m : ℕ) → 10 ≤ n → at + length (decimal n) ≤ m → at + length (decimal (n / 10)) < m
room_more at n m h p = let e = simp length-append at (ap length (decimal_more n h)) in omega arith
