-- The records of the second half as they are written: their lengths, and how each is stored. Assumes nothing.
use mathlib.Core.Path.{◌≡◌, refl, sym, ap, ap₂, ◌∙◌, subst}
use mathlib.Core.List.{List, ◌++◌}
use Prim.Native.Nat.{ℕ, ◌+◌, ◌*◌, ◌^◌, ◌≤◌, ◌<◌}
use native.Mathlib.Nat.{lt_of_lt_of_le}
use native.Mathlib.Omega.{arith}
use lib.ListN.{length, take, drop, length-append}
use lib.Seq.{sets}
use Rattle.tables.specs.Bytes.{field}
use Rattle.tables.specs.Lists.{laid}
use Rattle.tables.proofs.Counts.{record_inside}
use Rattle.tables.proofs.Parts.{length_part}
use Rattle.tables.proofs.Laid.{laid_whole}
use Rattle.bitset.specs.Sets.{shifted}
use Rattle.stores.specs.Low.{low_bytes}
use Rattle.stores.proofs.Low.{low_length}
use Rattle.stores.proofs.Stores.{after_low}
use Rattle.net.specs.Table.{pre_at, post_at, transitions}
use Rattle.join.specs.Joint.{shifted_record}
use Rattle.join.specs.Serving.{Fits}

module _ (places : ℕ) (bytes : List ℕ) where
  -- record t lies inside the bytes
  pub inside : (t : ℕ) → t < transitions bytes → t * 24 + 24 ≤ length bytes
  unfolding transitions
  inside t h = record_inside 24 (length bytes) t h

  pub counted : (t : ℕ) → t * 24 + 24 ≤ length bytes → t < transitions bytes
  unfolding transitions
  counted t h = omega arith

  -- its last eight bytes
  abbrev pub rest : ℕ → List ℕ
  rest t = take 8 (drop (t * 24 + 16) bytes)

  pub rest_length : (t : ℕ) → t < transitions bytes → length (rest t) ≡ 8
  rest_length t h = length_part 8 (t * 24 + 16) bytes (omega (arith, inside t h))

  -- ---- one record

  -- its sets as they are read can be shifted
  module _ (fits : Fits places bytes) (t x : ℕ) (h : t * 24 + 24 ≤ length bytes) where
    pub pre_fits : x ≡ field 8 (t * 24) bytes → (places < 64) × (shifted places x < 2 ^ 64)
    unfolding pre_at
    pre_fits e = (fits.few, subst (λ (y : ℕ). shifted places y < 2 ^ 64) (sym e) (fits.pre t (counted t h)))

    pub post_fits : x ≡ field 8 (t * 24 + 8) bytes → (places < 64) × (shifted places x < 2 ^ 64)
    unfolding post_at
    post_fits e = (fits.few, subst (λ (y : ℕ). shifted places y < 2 ^ 64) (sym e) (fits.post t (counted t h)))

  -- its three parts, stored one after the other
  pub record_put : (l : List ℕ) {l₁ l₂ l₃ : List ℕ} (at t : ℕ) {x y pre post : ℕ} → x ≡ field 8 (t * 24) bytes → y ≡ field 8 (t * 24 + 8) bytes
      → pre ≡ shifted places x → post ≡ shifted places y
      → l₁ ≡ sets l at (low_bytes 8 pre) → l₂ ≡ sets l₁ (at + 8) (low_bytes 8 post) → l₃ ≡ sets l₂ (at + 16) (rest t)
      → l₃ ≡ sets l at (shifted_record places bytes t)
  unfolding shifted_record pre_at post_at
  record_put l {l₁} at t {pre = pre} {post = post} a b c d p q r =
      after_low l at 8 pre (low_bytes 8 post ++ rest t) refl p (after_low l₁ (at + 8) 8 post (rest t) (omega arith) q r)
      ∙ ap₂ (λ (u v : ℕ). sets l at (low_bytes 8 u ++ (low_bytes 8 v ++ rest t))) (c ∙ ap (shifted places) a) (d ∙ ap (shifted places) b)

  pub record_length : (t : ℕ) → t < transitions bytes → length (shifted_record places bytes t) ≡ 24
  unfolding shifted_record
  record_length t h =
      let pre = low_bytes 8 (shifted places (pre_at bytes t)) in
      let post = low_bytes 8 (shifted places (post_at bytes t)) in
      omega (
        arith,
        length-append pre (post ++ rest t),
        length-append post (rest t),
        low_length 8 (shifted places (pre_at bytes t)),
        low_length 8 (shifted places (post_at bytes t)),
        rest_length t h,
      )

  -- ---- the first records

  pub to_length : (n : ℕ) → n ≤ transitions bytes → length (laid (shifted_record places bytes) n) ≡ n * 24
  to_length n h = laid_whole (shifted_record places bytes) 24 n (λ k l. record_length k (lt_of_lt_of_le l h))

  -- where the next is stored
  pub next_place : (at t : ℕ) → t ≤ transitions bytes → at + t * 24 ≡ at + length (laid (shifted_record places bytes) t)
  next_place at t h = ap (λ (x : ℕ). at + x) (sym (to_length t h))
