-- Records that are written one after the other, and the nodes of R's tree by number. Assumes nothing.
use mathlib.Core.Path.{◌≡◌, refl, sym, ap, ap₂, ◌∙◌}
use mathlib.Core.List.{List, [], ◌∷◌, ◌++◌, append-nil}
use Prim.Native.Nat.{ℕ, zero, suc, ◌+◌, ◌*◌, ◌≤◌, ◌<◌}
use native.Mathlib.Numerals.{add-one}
use native.Mathlib.Omega.{arith}
use lib.ListN.{length, drop, get_or, replicate, drop_of_length-le}
use lib.Seq.{sets, sets-eq, drop-cons}
use Rattle.texts.proofs.Buffers.{sets_append}
use Rattle.sample_bytes.specs.Bytes.{bytes}
use Rattle.sample_trees.specs.Tables.{node, joined, nodes_r, node_r, tree_r, tree_fails}

-- a node's fields
pub node-by : {l₁ l₂ l₃ l₄ l₅ l₆ l₇ l₈ l₉ l₁₀ l₁₁ l₁₂ : List ℕ} (m a k p f φ n r s h o t : ℕ) → l₁ ≡ sets (replicate 40 0) 0 (bytes 8 m)
    → l₂ ≡ sets l₁ 8 (bytes 8 a) → l₃ ≡ sets l₂ 16 (bytes 8 k) → l₄ ≡ sets l₃ 24 (bytes 4 p) → l₅ ≡ sets l₄ 28 (bytes 4 f)
    → l₆ ≡ sets l₅ 32 (bytes 2 φ) → l₇ ≡ sets l₆ 34 (bytes 1 n) → l₈ ≡ sets l₇ 35 (bytes 1 r) → l₉ ≡ sets l₈ 36 (bytes 1 s)
    → l₁₀ ≡ sets l₉ 37 (bytes 1 h) → l₁₁ ≡ sets l₁₀ 38 (bytes 1 o) → l₁₂ ≡ sets l₁₁ 39 (bytes 1 t) → l₁₂ ≡ node m a k p f φ n r s h o t
unfolding bytes node
node-by m a k p f φ n r s h o t e₁ e₂ e₃ e₄ e₅ e₆ e₇ e₈ e₉ e₁₀ e₁₁ e₁₂ = rw (e₁₂, e₁₁, e₁₀, e₉, e₈, e₇, e₆, e₅, e₄, e₃, e₂, e₁)

-- record k of those of 40 bytes, and then the others
pub next_record : (l : List ℕ) (rows : List (List ℕ)) (k : ℕ) (r : List ℕ) → k < length rows → r ≡ get_or rows k (bytes 40 0) → length r ≡ 40
    → sets (sets l (k * 40) r) ((k + 1) * 40) (joined (drop (k + 1) rows)) ≡ sets l (k * 40) (joined (drop k rows))
unfolding joined
next_record l rows k r h e n =
    let i : (k + 1) * 40 ≡ k * 40 + length r = omega arith in
    ap₂ (λ (j s : ℕ). sets (sets l (k * 40) r) j (joined (drop s rows))) i (add-one k)
    ∙ sets_append r (joined (drop (suc k) rows)) l (k * 40)
    ∙ ap (λ (w : List ℕ). sets l (k * 40) (w ++ joined (drop (suc k) rows))) e
    ∙ ap (λ (rs : List (List ℕ)). sets l (k * 40) (joined rs)) (sym (drop-cons rows k (bytes 40 0) h))

-- a list stored over all of another
pub all_stored : (l vs : List ℕ) → length vs ≡ length l → sets l 0 vs ≡ vs
all_stored l vs e =
    sets-eq vs l 0 (omega arith)
    ∙ ap (λ (ws : List ℕ). vs ++ ws) (drop_of_length-le l {i = 0 + length vs} (omega arith))
    ∙ append-nil vs

-- the nodes of R's tree
pub nodes_start : sets (replicate 920 0) 0 (joined nodes_r) ≡ tree_r
unfolding bytes node joined nodes_r tree_r
nodes_start = all_stored (replicate 920 0) (joined nodes_r) refl

pub nodes_more : (l : List ℕ) (k : ℕ) (l' r : List ℕ) → k < 23 → l' ≡ sets l (k * 40) r → r ≡ node_r k → length r ≡ 40
    → sets l (k * 40) (joined (drop k nodes_r)) ≡ tree_r → sets l' ((k + 1) * 40) (joined (drop (k + 1) nodes_r)) ≡ tree_r
unfolding nodes_r node_r bytes
nodes_more l k l' r h e f n i =
    ap (λ (t : List ℕ). sets t ((k + 1) * 40) (joined (drop (k + 1) nodes_r))) e ∙ next_record l nodes_r k r h f n ∙ i

pub nodes_all : (l : List ℕ) (k : ℕ) → 23 ≤ k → sets l (k * 40) (joined (drop k nodes_r)) ≡ l
unfolding joined nodes_r
nodes_all l k h = ap (λ (rs : List (List ℕ)). sets l (k * 40) (joined rs)) (drop_of_length-le nodes_r h)

-- the four nodes of a tree that shows "fails 2"
pub fails_by : {l₁ l₂ l₃ l₄ n₁ n₂ n₃ n₄ : List ℕ} (m k t : ℕ) → n₁ ≡ node m 0 0 0 1 2 1 31 1 0 0 0 → n₂ ≡ node m m k 0 2 2 2 32 1 4 0 0
    → n₃ ≡ node m 0 0 1 0 1 0 24 1 0 0 0 → n₄ ≡ node m m t 1 0 2 0 33 1 4 0 0 → l₁ ≡ sets (replicate 160 0) 0 n₁ → l₂ ≡ sets l₁ 40 n₂
    → l₃ ≡ sets l₂ 80 n₃ → l₄ ≡ sets l₃ 120 n₄ → l₄ ≡ tree_fails m k t
unfolding bytes node tree_fails
fails_by m k t f₁ f₂ f₃ f₄ e₁ e₂ e₃ e₄ = rw (e₄, e₃, e₂, e₁, f₁, f₂, f₃, f₄)

-- ---- R's nodes by number

-- k is none of the numbers below n, as a match on them leaves it
abbrev NoneBelow : (n k : ℕ) → Type 0
NoneBelow zero k = Unit {0}
NoneBelow (suc n) k = NoneBelow n k × (k ≡ n → ⊥)

none-below : (n k : ℕ) → NoneBelow n k → n ≤ k
none-below zero k h = omega arith
none-below (suc n) k h = let p = none-below n k h.0 in let q = h.1 in omega arith

past_end : (rows : List (List ℕ)) (k : ℕ) (d : List ℕ) → length rows ≤ k → get_or rows k d ≡ d
past_end [] k d h = refl
past_end (r ∷ rs) zero d h = absurd (omega arith)
past_end (r ∷ rs) (suc k) d h = past_end rs k d (omega arith)

pub no_node : (k : ℕ) → NoneBelow 23 k → node_r k ≡ replicate 40 0
unfolding nodes_r node_r bytes
no_node k h = past_end nodes_r k (bytes 40 0) (none-below 23 k h)
