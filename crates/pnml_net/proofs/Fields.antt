-- The records that a drawing gives: how many bytes, and the fields that are read from them. Assumes nothing.
use mathlib.Core.Path.{◌≡◌, refl, sym, ap, ap₂, ◌∙◌}
use mathlib.Core.Bool.{true, false}
use mathlib.Core.List.{List, [], ◌∷◌, ◌++◌, append_assoc, append-nil}
use mathlib.Core.Logic.{◌⊎◌, inl, inr}
use Prim.Native.Nat.{ℕ, zero, suc, ◌+◌, ◌*◌, ◌^◌, ◌≤◌, ◌<◌}
use native.Mathlib.Nat.{not-suc-le-zero, suc-mul}
use native.Mathlib.Omega.{arith}
use lib.ListN.{length, drop, length-append}
use lib.Seq.{drop-drop, drop-append-le, drop_at}
use lib.Dec.{eqb}
use borrow.Author.Tests.{eqb-true, eqb-false}
use Rattle.tables.specs.Bytes.{little, field}
use Rattle.tables.proofs.Numbers.{Bytes}
use Rattle.tables.proofs.Tests.{passed}
use Rattle.stores.specs.Low.{low_bytes}
use Rattle.stores.proofs.Low.{little_low, low-bytes, bytes_append}
use Rattle.net.specs.Table.{pre_at, post_at, spare_at}
use Rattle.pnml_shape.specs.Drawing.{Arc}
use Rattle.pnml_net.specs.Nets.{countdown, set_of, record_bytes, records_of}
use Rattle.pnml_net.proofs.Marks.{countdown_length}

pub record_length : (pre post entry : ℕ) → length (record_bytes pre post entry) ≡ 24
unfolding record_bytes low_bytes
record_length pre post entry = refl

-- each record has 24 bytes
pub records_length : (arcs : List Arc) (actions : List ℕ) → length (records_of arcs actions) ≡ length actions * 24
unfolding records_of
records_length arcs [] = refl
records_length arcs (a ∷ l) =
    let t = length l in
    length-append (records_of arcs l) (record_bytes (set_of arcs t false) (set_of arcs t true) a)
    ∙ ap₂ ◌+◌ (records_length arcs l) (record_length (set_of arcs t false) (set_of arcs t true) a)
    ∙ sym (suc-mul t 24)

-- they are bytes
record-bytes : (pre post entry : ℕ) → Bytes (record_bytes pre post entry)
unfolding record_bytes
record-bytes pre post entry =
    bytes_append (low_bytes 8 pre) (low_bytes 8 post ++ (low_bytes 3 entry ++ low_bytes 5 0)) (low-bytes 8 pre)
    (bytes_append (low_bytes 8 post) (low_bytes 3 entry ++ low_bytes 5 0) (low-bytes 8 post)
    (bytes_append (low_bytes 3 entry) (low_bytes 5 0) (low-bytes 3 entry) (low-bytes 5 0)))

pub records_bytes : (arcs : List Arc) (actions : List ℕ) → Bytes (records_of arcs actions)
unfolding records_of low_bytes
records_bytes arcs [] = low-bytes 0 0
records_bytes arcs (a ∷ l) =
    bytes_append (records_of arcs l) (record_bytes (set_of arcs (length l) false) (set_of arcs (length l) true) a) (records_bytes arcs l)
    (record-bytes (set_of arcs (length l) false) (set_of arcs (length l) true) a)

-- ---- the fields of one record among all

module _ (arcs : List Arc) (act : ℕ → ℕ) where
  -- one record, and those of the first n transitions
  record_at : ℕ → List ℕ
  record_at t = record_bytes (set_of arcs t false) (set_of arcs t true) (act t)

  upto : ℕ → List ℕ
  upto n = records_of arcs (countdown act n)

  upto_length : (n : ℕ) → length (upto n) ≡ n * 24
  unfolding upto
  upto_length n = records_length arcs (countdown act n) ∙ ap (λ (k : ℕ). k * 24) (countdown_length act n)

  upto_more : (n : ℕ) → upto (suc n) ≡ upto n ++ record_at n
  unfolding upto record_at countdown records_of
  upto_more n =
      ap (λ (t : ℕ). records_of arcs (countdown act n) ++ record_bytes (set_of arcs t false) (set_of arcs t true) (act n))
      (countdown_length act n)

  -- from its place on, a record stands first
  from : (n t : ℕ) → t < n → (rest : List ℕ) × (drop (t * 24) (upto n) ≡ record_at t ++ rest)
  from zero t h = absurd (not-suc-le-zero h)
  from (suc n) t h = by (passed (eqb t n)) (from n t)
    where
      by : (eqb t n ≡ true) ⊎ (eqb t n ≡ false) → (t < n → (rest : List ℕ) × (drop (t * 24) (upto n) ≡ record_at t ++ rest))
          → (rest : List ℕ) × (drop (t * 24) (upto (suc n)) ≡ record_at t ++ rest)
      by (inl e) ih =
          let s : t ≡ n = eqb-true t n e in (
            [],
            ap (λ (k : ℕ). drop (k * 24) (upto (suc n))) s
                ∙ ap (drop (n * 24)) (upto_more n)
                ∙ drop_at (upto n) (record_at n) (n * 24) (upto_length n)
                ∙ ap record_at (sym s)
                ∙ sym (append-nil (record_at t)),
          )
      by (inr e) ih =
          let d : t ≡ n → ⊥ = eqb-false t n e in
          let l : t * 24 ≤ length (upto n) = (let k : length (upto n) ≡ n * 24 = upto_length n in omega arith) in
          later l (ih (omega arith))
        where
          later : t * 24 ≤ length (upto n) → (rest : List ℕ) × (drop (t * 24) (upto n) ≡ record_at t ++ rest)
              → (rest : List ℕ) × (drop (t * 24) (upto (suc n)) ≡ record_at t ++ rest)
          later l r = (
            r.0 ++ record_at n,
            ap (drop (t * 24)) (upto_more n)
                ∙ drop-append-le (t * 24) (upto n) (record_at n) l
                ∙ ap (λ x. x ++ record_at n) r.1
                ∙ append_assoc (record_at t) r.0 (record_at n),
          )

  -- what is read from it
  module _ (n t : ℕ) (h : t < n) where
    rest : List ℕ
    rest = (from n t h).0

    reads : (k j : ℕ) → field k (t * 24 + j) (upto n) ≡ little k (drop j (record_at t ++ rest))
    unfolding field rest
    reads k j = ap (little k) (sym (drop-drop j (t * 24) (upto n)) ∙ ap (drop j) (from n t h).1)

    pub read_pre : set_of arcs t false < 256 ^ 8 → pre_at (records_of arcs (countdown act n)) t ≡ set_of arcs t false
    unfolding pre_at field rest record_at upto record_bytes low_bytes
    read_pre l = ap (little 8) (from n t h).1 ∙ little_low 8 (set_of arcs t false) (drop 8 (record_at t ++ rest)) l

    pub read_post : set_of arcs t true < 256 ^ 8 → post_at (records_of arcs (countdown act n)) t ≡ set_of arcs t true
    unfolding post_at upto record_at record_bytes low_bytes
    read_post l = reads 8 8 ∙ little_low 8 (set_of arcs t true) (drop 16 (record_at t ++ rest)) l

    pub read_entry : act t < 256 ^ 3 → field 3 (t * 24 + 16) (records_of arcs (countdown act n)) ≡ act t
    unfolding upto record_at record_bytes low_bytes
    read_entry l = reads 3 16 ∙ little_low 3 (act t) (drop 19 (record_at t ++ rest)) l

    pub read_spare : spare_at (records_of arcs (countdown act n)) t ≡ 0
    unfolding spare_at upto record_at record_bytes low_bytes
    read_spare = reads 5 19 ∙ little_low 5 0 rest (omega arith)
