-- What is read in the joint records: the first half's numbers as they are, the second's with its sets shifted. Assumes nothing.
use mathlib.Core.Path.{◌≡◌, refl, sym, ap, ◌∙◌}
use mathlib.Core.List.{List, ◌++◌}
use Prim.Native.Nat.{ℕ, ◌+◌, ◌*◌, ◌^◌, ◌≤◌, ◌<◌}
use native.Mathlib.Nat.{add-zero}
use native.Mathlib.Omega.{arith}
use lib.ListN.{length}
use Rattle.tables.specs.Bytes.{field}
use Rattle.tables.specs.Lists.{laid}
use Rattle.tables.proofs.Parts.{field_part, field_before, field_after}
use Rattle.tables.proofs.Laid.{laid_field}
use Rattle.bitset.specs.Sets.{shifted}
use Rattle.stores.specs.Low.{low_bytes}
use Rattle.stores.proofs.Low.{low_length, little_low}
use Rattle.net.specs.Table.{pre_at, post_at, action_at, mark_at, spare_at, transitions}
use Rattle.join.specs.Joint.{Marked, shifted_record, joint}
use Rattle.join.proofs.Records.{inside, rest, record_length}

module _ (places : ℕ) (bytes : List ℕ) where
  -- ---- in one record of the second half

  module _ (t : ℕ) where
    pre_read : shifted places (pre_at bytes t) < 256 ^ 8 → field 8 0 (shifted_record places bytes t) ≡ shifted places (pre_at bytes t)
    unfolding field shifted_record
    pre_read l = little_low 8 (shifted places (pre_at bytes t)) (low_bytes 8 (shifted places (post_at bytes t)) ++ rest places bytes t) l

    -- what follows the pre set
    after_pre : (k j : ℕ) → field k (8 + j) (shifted_record places bytes t) ≡ field k j (low_bytes 8 (shifted places (post_at bytes t)) ++ rest places bytes t)
    unfolding shifted_record
    after_pre k j =
        field_after (low_bytes 8 (shifted places (pre_at bytes t))) (low_bytes 8 (shifted places (post_at bytes t)) ++ rest places bytes t) 8 j k
        (low_length 8 (shifted places (pre_at bytes t)))

    post_read : shifted places (post_at bytes t) < 256 ^ 8 → field 8 8 (shifted_record places bytes t) ≡ shifted places (post_at bytes t)
    unfolding field
    post_read l = after_pre 8 0 ∙ little_low 8 (shifted places (post_at bytes t)) (rest places bytes t) l

    -- the last eight bytes are those of the record before
    rest_read : (k i : ℕ) → i + k ≤ 8 → field k (16 + i) (shifted_record places bytes t) ≡ field k (t * 24 + 16 + i) bytes
    rest_read k i h =
        ap (λ (x : ℕ). field k x (shifted_record places bytes t)) (omega arith)
        ∙ after_pre k (8 + i)
        ∙ field_after (low_bytes 8 (shifted places (post_at bytes t))) (rest places bytes t) 8 i k (low_length 8 (shifted places (post_at bytes t)))
        ∙ field_part k i 8 (t * 24 + 16) bytes h

  -- ---- in the table of them

  to_read : (t : ℕ) → t < transitions bytes → (k j : ℕ) → j + k ≤ 24
      → field k (t * 24 + j) (laid (shifted_record places bytes) (transitions bytes)) ≡ field k j (shifted_record places bytes t)
  to_read t h k j l = laid_field (shifted_record places bytes) 24 (transitions bytes) (record_length places bytes) t h k j l

-- ---- in the joint records, where the first half's table has whole records

module _ (f s : Marked) (whole : transitions f.bytes * 24 ≡ length f.bytes) where
  -- record t of the first half
  module _ (t : ℕ) (h : t < transitions f.bytes) where
    first_read : (k j : ℕ) → j + k ≤ 24 → field k (t * 24 + j) (joint f s).bytes ≡ field k (t * 24 + j) f.bytes
    unfolding joint
    first_read k j l =
        field_before k (t * 24 + j) f.bytes (laid (shifted_record f.places s.bytes) (transitions s.bytes)) (omega (arith, inside f.places f.bytes t h))

    pub first_pre : pre_at (joint f s).bytes t ≡ pre_at f.bytes t
    unfolding pre_at
    first_pre =
        ap (λ (x : ℕ). field 8 x (joint f s).bytes) (sym (add-zero (t * 24)))
        ∙ first_read 8 0 (omega arith)
        ∙ ap (λ (x : ℕ). field 8 x f.bytes) (add-zero (t * 24))

    pub first_post : post_at (joint f s).bytes t ≡ post_at f.bytes t
    unfolding post_at
    first_post = first_read 8 8 (omega arith)

    pub first_action : action_at (joint f s).bytes t ≡ action_at f.bytes t
    unfolding action_at
    first_action = first_read 2 16 (omega arith)

    pub first_mark : mark_at (joint f s).bytes t ≡ mark_at f.bytes t
    unfolding mark_at
    first_mark = first_read 1 18 (omega arith)

    pub first_spare : spare_at (joint f s).bytes t ≡ spare_at f.bytes t
    unfolding spare_at
    first_spare = first_read 5 19 (omega arith)

  -- record u of the second
  module _ (u : ℕ) (h : u < transitions s.bytes) where
    abbrev place : ℕ
    place = transitions f.bytes + u

    second_read : (k j : ℕ) → j + k ≤ 24 → field k (place * 24 + j) (joint f s).bytes ≡ field k j (shifted_record f.places s.bytes u)
    unfolding joint
    second_read k j l =
        ap (λ (x : ℕ). field k x (f.bytes ++ laid (shifted_record f.places s.bytes) (transitions s.bytes))) (omega (arith, whole))
        ∙ field_after f.bytes (laid (shifted_record f.places s.bytes) (transitions s.bytes)) (length f.bytes) (u * 24 + j) k refl
        ∙ to_read f.places s.bytes u h k j l

    pub second_pre : shifted f.places (pre_at s.bytes u) < 256 ^ 8
        → pre_at (joint f s).bytes (transitions f.bytes + u) ≡ shifted f.places (pre_at s.bytes u)
    unfolding pre_at
    second_pre l = ap (λ (x : ℕ). field 8 x (joint f s).bytes) (sym (add-zero (place * 24))) ∙ second_read 8 0 (omega arith) ∙ pre_read f.places s.bytes u l

    pub second_post : shifted f.places (post_at s.bytes u) < 256 ^ 8
        → post_at (joint f s).bytes (transitions f.bytes + u) ≡ shifted f.places (post_at s.bytes u)
    unfolding post_at
    second_post l = second_read 8 8 (omega arith) ∙ post_read f.places s.bytes u l

    rest_same : (k i : ℕ) → i + k ≤ 8 → field k (place * 24 + (16 + i)) (joint f s).bytes ≡ field k (u * 24 + 16 + i) s.bytes
    rest_same k i l = second_read k (16 + i) (omega arith) ∙ rest_read f.places s.bytes u k i l

    pub second_action : action_at (joint f s).bytes (transitions f.bytes + u) ≡ action_at s.bytes u
    unfolding action_at
    second_action = rest_same 2 0 (omega arith) ∙ ap (λ (x : ℕ). field 2 x s.bytes) (add-zero (u * 24 + 16))

    pub second_mark : mark_at (joint f s).bytes (transitions f.bytes + u) ≡ mark_at s.bytes u
    unfolding mark_at
    second_mark = rest_same 1 2 (omega arith) ∙ ap (λ (x : ℕ). field 1 x s.bytes) (omega arith)

    pub second_spare : spare_at (joint f s).bytes (transitions f.bytes + u) ≡ spare_at s.bytes u
    unfolding spare_at
    second_spare = rest_same 5 3 (omega arith) ∙ ap (λ (x : ℕ). field 5 x s.bytes) (omega arith)
