-- Records that are put one after the other. Assumes nothing.
use Prim.Native.Nat.{ℕ, zero, suc, ◌+◌, ◌*◌}
use mathlib.Core.Path.{◌≡◌, refl, ap, ◌∙◌}
use mathlib.Core.List.{List, ◌++◌}
use native.Mathlib.Numerals.{add-one}
use native.Mathlib.Omega.{arith}
use lib.ListN.{length, length-append}
use lib.Seq.{sets}
use Rattle.stores.proofs.Stores.{after}
use Rattle.sample_bytes.specs.Bytes.{bytes}
use Rattle.sample_trees.specs.Tables.{formula}
use Rattle.sample_trees.proofs.Writing.{all_stored}
use Rattle.sample_written.specs.Tables.{row, table, ands, chain}

formula_length : (operator left right action : ℕ) → length (formula operator left right action) ≡ 8
unfolding bytes formula
formula_length operator left right action = refl

-- ---- rows

table_length : (rows : List ℕ) (n : ℕ) → length (table rows n) ≡ n * 8
unfolding table row
table_length rows zero = refl
table_length rows (suc n) =
    let i = table_length rows n in
    simp (length-append, formula_length) (omega arith)

pub no_row : (rows l : List ℕ) → l ≡ sets l 0 (table rows 0)
unfolding table
no_row rows l = refl

pub more_rows : (rows l : List ℕ) {l₁ l₂ r : List ℕ} (f : ℕ) → l₁ ≡ sets l 0 (table rows f) → r ≡ row rows f → l₂ ≡ sets l₁ (f * 8) r
    → l₂ ≡ sets l 0 (table rows (f + 1))
unfolding table
more_rows rows l {l₁} f p e q =
    let n = table_length rows f in
    rw add-one (after l 0 (table rows f) (row rows f) (omega arith) p (q ∙ ap (λ (v : List ℕ). sets l₁ (f * 8) v) e))

-- ---- chains

ands_length : (n : ℕ) → length (ands n) ≡ n * 8
unfolding ands
ands_length zero = refl
ands_length (suc n) =
    let i = ands_length n in
    simp (length-append, formula_length) (omega arith)

pub no_and : (l : List ℕ) → l ≡ sets l 8 (ands 0)
unfolding ands
no_and l = refl

pub more_ands : (l : List ℕ) {l₁ l₂ : List ℕ} (f : ℕ) → l₁ ≡ sets l 8 (ands f) → l₂ ≡ sets l₁ ((f + 1) * 8) (formula 2 f f 0)
    → l₂ ≡ sets l 8 (ands (f + 1))
unfolding ands
more_ands l {l₁} {l₂} f p q =
    let n = ands_length f in
    rw (add-one f) (after l 8 {j = (f + 1) * 8} (ands f) (formula 2 f f 0) (omega arith) p q)

-- a chain over all of a table
pub chain_by : (l : List ℕ) {l₁ l₂ : List ℕ} (n : ℕ) → length l ≡ (n + 1) * 8 → l₁ ≡ sets l 0 (formula 0 0 0 0) → l₂ ≡ sets l₁ 8 (ands n)
    → l₂ ≡ chain n
unfolding chain
chain_by l n h p q =
    let f = formula_length 0 0 0 0 in
    let k = ands_length n in
    let a = length-append (formula 0 0 0 0) (ands n) in
    after l 0 (formula 0 0 0 0) (ands n) (omega arith) p q ∙ all_stored l (formula 0 0 0 0 ++ ands n) (omega arith)
