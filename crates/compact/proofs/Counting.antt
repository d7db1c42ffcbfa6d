-- The new numbers: how many lower records are marked, entry by entry. Assumes nothing.
use mathlib.Core.Path.{◌≡◌, refl, sym, ap, ap₂, ◌∙◌}
use mathlib.Core.Bool.{Bool, true, false, cond}
use mathlib.Core.List.{List}
use Prim.Native.Nat.{ℕ, ◌+◌, ◌≤◌}
use native.Mathlib.Numerals.{add-one}
use native.Mathlib.Omega.{arith}
use lib.ListN.{get_or}
use mir.Val.{bool_byte}
use borrow.Author.Tests.{lt-ltb}
use Rattle.tables.specs.Lists.{tab, up_to}
use Rattle.tables.specs.Below.{count_below}
use Rattle.tables.proofs.Tests.{if_true}
use Rattle.tables.proofs.Entries.{tab_ext}
use Rattle.compact.specs.Serving.{is_marked}

-- a mark counts one at most
pub counted_few : (b : Bool) {v : ℕ} → v ≡ bool_byte b → v ≤ 1
counted_few true e = omega arith
counted_few false e = omega arith

one : (b : Bool) → bool_byte b ≡ cond b 1 0
one true = refl
one false = refl

-- one mark more is counted
pub counted_next : (marks : List Bool) (i : ℕ) {n v : ℕ} → n ≡ count_below (is_marked marks) i → v ≡ bool_byte (get_or marks i false)
    → n + v ≡ count_below (is_marked marks) (i + 1)
unfolding count_below is_marked
counted_next marks i p q = ap₂ ◌+◌ p (q ∙ one (get_or marks i false)) ∙ ap (count_below (is_marked marks)) (sym (add-one i))

-- all entries are found
pub filled : (f : ℕ → ℕ) (n i : ℕ) {l : List ℕ} → l ≡ tab (up_to f i) n → i ≡ n → l ≡ tab f n
unfolding up_to
filled f n i e q =
    e
    ∙ ap (λ (x : ℕ). tab (up_to f x) n) q
    ∙ tab_ext (up_to f n) f n (λ k h. if_true _ (f k) 0 (lt-ltb k n h))
