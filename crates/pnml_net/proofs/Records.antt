-- A net's records, from its drawing back. Assumes nothing.
use mathlib.Core.Path.{◌≡◌, refl, sym, ap, ap₂, ◌∙◌}
use mathlib.Core.Bool.{true, false}
use mathlib.Core.List.{List, ◌++◌}
use Prim.Native.Nat.{ℕ, zero, suc, ◌+◌, ◌*◌, ◌≤◌, ◌<◌}
use native.Mathlib.Nat.{add_assoc, suc-mul, lt-suc_self, lt_trans}
use native.Mathlib.Omega.{arith}
use lib.ListN.{length, take, drop}
use lib.Seq.{drop-drop, take-add, take-length}
use Rattle.tables.specs.Bytes.{field}
use Rattle.tables.proofs.Numbers.{Bytes}
use Rattle.stores.specs.Low.{low_bytes}
use Rattle.stores.proofs.Low.{low_field}
use Rattle.pnml_shape.specs.Drawing.{Arc}
use Rattle.tables.proofs.Counts.{record_inside}
use Rattle.bitset.specs.Sets.{within}
use Rattle.net.specs.declared.Net.{Net}
use Rattle.net.specs.Step.{pre_of, post_of}
use Rattle.net.specs.Table.{pre_at, post_at, spare_at, transitions, net_of}
use Rattle.net.proofs.Answers.{decoded_pre, decoded_post}
use Rattle.pnml_net.specs.Nets.{countdown, net_arcs, entry_of, drawing_of, set_of, record_bytes, records_of}
use Rattle.pnml_net.proofs.Marks.{countdown_length}
use Rattle.pnml_net.proofs.Sets.{set_back}
use Rattle.net.proofs.Loaded.{Loaded}
use Rattle.pnml_net.proofs.Entries.{entry_field, entry_most, entry_decoded}

-- ---- one record

module _ (l : List ℕ) (bytes : Bytes l) where
  two_parts : (n m at : ℕ) → take (n + m) (drop at l) ≡ take n (drop at l) ++ take m (drop (at + n) l)
  two_parts n m at = take-add n m (drop at l) ∙ ap (λ x. take n (drop at l) ++ take m x) (drop-drop n at l)

  record_parts : (at : ℕ) → take 24 (drop at l)
      ≡ take 8 (drop at l) ++ (take 8 (drop (at + 8) l) ++ (take 3 (drop (at + 16) l) ++ take 5 (drop (at + 19) l)))
  record_parts at =
      two_parts 8 16 at
      ∙ ap (λ x. take 8 (drop at l) ++ x)
      (two_parts 8 8 (at + 8)
      ∙ ap (λ x. take 8 (drop (at + 8) l) ++ x)
      (ap (λ (k : ℕ). take 8 (drop k l)) (add_assoc at 8 8)
      ∙ two_parts 3 5 (at + 16)
      ∙ ap (λ (k : ℕ). take 3 (drop (at + 16) l) ++ take 5 (drop k l)) (add_assoc at 16 3)))

  record_back : (t : ℕ) → t * 24 + 24 ≤ length l → spare_at l t ≡ 0
      → record_bytes (pre_at l t) (post_at l t) (field 3 (t * 24 + 16) l) ≡ take 24 (drop (t * 24) l)
  unfolding record_bytes pre_at post_at spare_at
  record_back t h z =
      ap₂ ◌++◌ (low_field l bytes 8 (t * 24) (omega arith))
      (ap₂ ◌++◌ (low_field l bytes 8 (t * 24 + 8) (omega arith))
      (ap₂ ◌++◌ (low_field l bytes 3 (t * 24 + 16) (omega arith)) (ap (low_bytes 5) (sym z) ∙ low_field l bytes 5 (t * 24 + 19) (omega arith))))
      ∙ sym (record_parts (t * 24))

-- ---- all records

records_upto : (arcs : List Arc) (act : ℕ → ℕ) (l : List ℕ) (n : ℕ)
    → ((t : ℕ) → t < n → record_bytes (set_of arcs t false) (set_of arcs t true) (act t) ≡ take 24 (drop (t * 24) l))
    → records_of arcs (countdown act n) ≡ take (n * 24) l
unfolding countdown records_of
records_upto arcs act l zero h = refl
records_upto arcs act l (suc n) h =
    ap₂ ◌++◌ (records_upto arcs act l n (λ t k. h t (lt_trans k (lt-suc_self n))))
    (ap (λ (k : ℕ). record_bytes (set_of arcs k false) (set_of arcs k true) (act n)) (countdown_length act n) ∙ h n (lt-suc_self n))
    ∙ sym (take-add (n * 24) 24 l)
    ∙ ap (λ (k : ℕ). take k l) (sym (suc-mul n 24))

-- ---- the records of a net that is loaded

module _ (places m : ℕ) (bytes : List ℕ) (has : Loaded places m bytes) where
  net : Net
  net = net_of places bytes

  -- its sets and entries
  pre_back : (t : ℕ) → t < transitions bytes → set_of (net_arcs net (transitions bytes)) t false ≡ pre_at bytes t
  unfolding net net_of
  pre_back t h =
      let e : pre_of (net_of places bytes) t ≡ pre_at bytes t = decoded_pre places bytes has.size t h in
      set_back net (transitions bytes) t false h (ap (within places) e ∙ has.pre t h) ∙ e

  post_back : (t : ℕ) → t < transitions bytes → set_of (net_arcs net (transitions bytes)) t true ≡ post_at bytes t
  unfolding net net_of
  post_back t h =
      let e : post_of (net_of places bytes) t ≡ post_at bytes t = decoded_post places bytes has.size t h in
      set_back net (transitions bytes) t true h (ap (within places) e ∙ has.post t h) ∙ e

  entry_back : (t : ℕ) → t < transitions bytes → entry_of net t ≡ field 3 (t * 24 + 16) bytes
  unfolding net
  entry_back t h = entry_decoded places bytes has.size t h ∙ entry_field bytes t (has.mark t h)

  -- each entry is an action, with 65,536 added or not
  pub entries_most : Bytes bytes → (t : ℕ) → t < transitions bytes → entry_of (net_of places bytes) t ≤ 131071
  entries_most b t h = omega (arith, entry_decoded places bytes has.size t h, entry_most bytes b t (has.mark t h))

  -- its records, one by one and all
  inside : (t : ℕ) → t < transitions bytes → t * 24 + 24 ≤ length bytes
  unfolding transitions
  inside t h = record_inside 24 (length bytes) t h

  record-at : Bytes bytes → (t : ℕ) → t < transitions bytes
      → record_bytes (set_of (net_arcs net (transitions bytes)) t false) (set_of (net_arcs net (transitions bytes)) t true) (entry_of net t)
      ≡ take 24 (drop (t * 24) bytes)
  record-at b t h =
      ap₂ (λ (x y : ℕ). record_bytes x y (entry_of net t)) (pre_back t h) (post_back t h)
      ∙ ap (record_bytes (pre_at bytes t) (post_at bytes t)) (entry_back t h)
      ∙ record_back bytes b t (inside t h) (has.spare t h)

  pub records_loaded : Bytes bytes → records_of (drawing_of (net_of places bytes) m).arcs (drawing_of (net_of places bytes) m).actions ≡ bytes
  unfolding net net_of drawing_of
  records_loaded b =
      records_upto (net_arcs net (transitions bytes)) (entry_of net) bytes (transitions bytes) (record-at b)
      ∙ ap (λ (n : ℕ). take n bytes) has.whole
      ∙ take-length bytes
