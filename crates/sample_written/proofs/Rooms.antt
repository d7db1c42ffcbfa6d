-- What a room holds, byte by byte, and the answer from its numbers. Assumes nothing.
use Prim.Native.Nat.{ℕ, zero, suc, ◌+◌, ◌-◌, ◌*◌, ◌/◌, ◌%◌, ◌≤◌, ◌<◌}
use mathlib.Core.Path.{◌≡◌, refl, sym, ap, ◌∙◌}
use mathlib.Core.List.{List, [], ◌∷◌}
use native.Mathlib.Numerals.{add-one}
use native.Mathlib.Omega.{arith}
use lib.ListN.{length, take, get_or, set, length-append}
use lib.Seq.{sets, take_all}
use borrow.Author.Tests.{eq-eqb, ne_eqb}
use Rattle.stores.proofs.Stores.{after}
use Rattle.tree_answer.specs.Answer.{Answer}
use Rattle.tree_write.specs.declared.Numbers.{Numbers}
use Rattle.tree_write.specs.declared.Written.{Written}
use Rattle.tree_write.specs.declared.TreeRefusal.{TreeRefusal}
use Rattle.std.proofs.Common.{Result}
use Rattle.tree_write.specs.Result.{found_of, written_of, answer_of}
use Rattle.nodes.specs.Nodes.{node_size}
use Rattle.nodes.specs.Written.{with_side}
use Rattle.sample_trees.proofs.Writing.{all_stored}
use Rattle.sample_written.specs.Told.{filled, kept, writer}

-- ---- the pattern

pub filled_length : (n : ℕ) → length (filled n) ≡ n
unfolding filled
filled_length zero = refl
filled_length (suc n) =
    let i = filled_length n in
    simp length-append (omega arith)

pub unfilled : (l : List ℕ) → l ≡ sets l 0 (filled 0)
unfolding filled
unfilled l = refl

pub more_filled : (l : List ℕ) {l₁ : List ℕ} (i : ℕ) → l₁ ≡ sets l 0 (filled i) → set l₁ i (i % 251) ≡ sets l 0 (filled (i + 1))
unfolding filled
more_filled l {l₁} i p =
    let n = filled_length i in
    rw (add-one i) (after l 0 {j = i} (filled i) (i % 251 ∷ []) (omega arith) p refl)

pub all_filled : (l : List ℕ) {l₁ : List ℕ} {i : ℕ} → i ≤ length l → length l₁ ≡ length l → length l₁ ≤ i → l₁ ≡ sets l 0 (filled i)
    → l₁ ≡ filled (length l)
all_filled l {l₁} {i} p n q e =
    let d : i ≡ length l = omega arith in
    let k = filled_length i in
    e ∙ all_stored l (filled i) (omega arith) ∙ ap filled d

-- ---- what stayed

pub none_kept : (l : List ℕ) (from : ℕ) → 0 ≡ kept l from (from - from)
unfolding kept
none_kept l from = let d : from - from ≡ 0 = omega arith in rw d

pub stayed : (l : List ℕ) (from i n : ℕ) → from ≤ i → n ≡ kept l from (i - from) → get_or l i 0 ≡ i % 251 → n + 1 ≡ kept l from (i + 1 - from)
unfolding kept
stayed l from i n h e k =
    let d : i + 1 - from ≡ suc (i - from) = omega arith in
    let a : from + (i - from) ≡ i = omega arith in
    let t = eq-eqb (get_or l i 0) (i % 251) k in
    rw (d, a, t, e)

pub changed : (l : List ℕ) (from i n : ℕ) → from ≤ i → n ≡ kept l from (i - from) → (get_or l i 0 ≡ i % 251 → ⊥) → n ≡ kept l from (i + 1 - from)
unfolding kept
changed l from i n h e k =
    let d : i + 1 - from ≡ suc (i - from) = omega arith in
    let a : from + (i - from) ≡ i = omega arith in
    let t = ne_eqb (get_or l i 0) (i % 251) k in
    rw (d, a, t, e)

pub all_kept : (l : List ℕ) (from i n : ℕ) → from ≤ i → i - from ≤ length l - from → length l ≤ i → n ≡ kept l from (i - from)
    → n ≡ kept l from (length l - from)
all_kept l from i n h p q e = let d : i - from ≡ length l - from = omega arith in rw d at e

-- ---- the tree and the ask

pub whole : (room : List ℕ) (nodes : ℕ) → length room / node_size < nodes → room ≡ take (nodes * node_size) room
whole room nodes h = sym (take_all (nodes * node_size) room (omega arith))

pub sided : (ask : List ℕ) {l₁ : List ℕ} (side : ℕ) → l₁ ≡ ask → set l₁ 11 side ≡ with_side ask side
unfolding with_side
sided ask side e = ap (λ (a : List ℕ). set a 11 side) e

-- ---- answers in numbers

pub write_told : (w : Result Written TreeRefusal) (n : Numbers) (room : List ℕ) (a : Answer) → answer_of w room ≡ a
    → (n.number ≡ (found_of w).number) × (n.place ≡ (found_of w).place) × (n.side ≡ (written_of w).side) × (n.nodes ≡ (written_of w).nodes)
    → writer n room ≡ a
write_told w n room a e h = simp (h.0, h.1, h.2, h.3) e
