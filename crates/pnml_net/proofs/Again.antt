-- Records that arcs and entries give: loading finds no fault in them, and their net has these arcs and entries. Assumes nothing.
use mathlib.Core.Path.{◌≡◌, sym, ap, ◌∙◌, subst}
use mathlib.Core.Bool.{Bool, true, false, cond}
use mathlib.Core.List.{List}
use mathlib.Core.Logic.{◌⊎◌, inl, inr}
use Prim.Native.Nat.{ℕ, ◌+◌, ◌*◌, ◌^◌, ◌≤◌, ◌<◌}
use native.Mathlib.Nat.{lt_of_lt_of_le, le_refl}
use native.Mathlib.Omega.{arith}
use lib.ListN.{length}
use lib.Pow.{pow_mono}
use borrow.Author.Tests.{ltb-true}
use Rattle.tables.specs.Bytes.{field}
use Rattle.tables.proofs.Below.{lt_or_ge}
use Rattle.bitset.specs.Sets.{within}
use Rattle.net.specs.declared.Net.{Net}
use Rattle.net.specs.Step.{pre_of, post_of}
use Rattle.net.specs.Table.{pre_at, post_at, mark_at, spare_at, transitions, net_of, table_sized}
use Rattle.net.specs.Answer.{load_fault}
use Rattle.net.proofs.Answers.{decoded_pre, decoded_post}
use Rattle.net.proofs.Loaded.{Loaded, sized_by, has_load}
use Rattle.pnml_shape.specs.Drawing.{Arc, arcs_good}
use Rattle.pnml_net.specs.Nets.{countdown, net_arcs, entry_of, set_of, records_of}
use Rattle.pnml_net.proofs.Marks.{countdown_length}
use Rattle.pnml_net.proofs.Sets.{before, set_back}
use Rattle.pnml_net.proofs.Good.{net-good}
use Rattle.pnml_net.proofs.Order.{sets-within, sets_none, same_sets}
use Rattle.pnml_net.proofs.Lists.{countdown_ext}
use Rattle.pnml_net.proofs.Entries.{entry_field, mark_low, entry_decoded}
use Rattle.pnml_net.proofs.Fields.{records_length, records_bytes, read_pre, read_post, read_entry, read_spare}

-- ---- a net whose sets are those of good arcs has these arcs

arcs_again : (N : Net) (n : ℕ) (l : List Arc) → arcs_good N.places n l ≡ true
    → ((t : ℕ) → t < n → (q : Bool) → cond q (post_of N t) (pre_of N t) ≡ set_of l t q) → net_arcs N n ≡ l
arcs_again N n l g e = same_sets N.places n (net_arcs N n) l (net-good N n n (le_refl n)) g (λ t q. by t q (lt_or_ge t n))
  where
    by : (t : ℕ) (q : Bool) → (t < n) ⊎ (n ≤ t) → set_of (net_arcs N n) t q ≡ set_of l t q
    by t q (inl h) = set_back N n t q h (ap (within N.places) (e t h q) ∙ sets-within N.places n l g t q) ∙ e t h q
    by t q (inr h) = before N n t q h ∙ sym (sets_none N.places n l g t q h)

-- ---- the records

-- a set within at most 64 places is a number of eight bytes
eight_bytes : (places s : ℕ) → places ≤ 64 → within places s ≡ true → s < 256 ^ 8
unfolding within
eight_bytes places s l h = lt_of_lt_of_le (ltb-true s (2 ^ places) h) (pow_mono l)

-- good arcs, entries of an action with 65,536 added or not, 1 to 64 places and 1 to 64 transitions
pub record Fits (places : ℕ) (arcs : List Arc) (act : ℕ → ℕ) (n : ℕ) : Type 0 where
  pub fine : arcs_good places n arcs ≡ true
  pub low : (t : ℕ) → act t ≤ 131071
  pub places_least : 1 ≤ places
  pub places_most : places ≤ 64
  pub least : 1 ≤ n
  pub most : n ≤ 64

module _ (places : ℕ) (arcs : List Arc) (act : ℕ → ℕ) (n : ℕ) (fits : Fits places arcs act n) where
  table : List ℕ
  table = records_of arcs (countdown act n)

  -- how many bytes and records
  size : length table ≡ n * 24
  unfolding table
  size = records_length arcs (countdown act n) ∙ ap (λ (k : ℕ). k * 24) (countdown_length act n)

  whole : (table_sized table ≡ true) × (transitions table ≡ n)
  whole = sized_by table n size fits.least fits.most

  count : transitions table ≡ n
  count = whole.1

  -- the sets, and what is read from a record
  within_places : (t : ℕ) (q : Bool) → within places (set_of arcs t q) ≡ true
  within_places t q = sets-within places n arcs fits.fine t q

  set_low : (t : ℕ) (q : Bool) → set_of arcs t q < 256 ^ 8
  set_low t q = eight_bytes places (set_of arcs t q) fits.places_most (within_places t q)

  pre_is : (t : ℕ) → t < n → pre_at table t ≡ set_of arcs t false
  unfolding table
  pre_is t h = read_pre arcs act n t h (set_low t false)

  post_is : (t : ℕ) → t < n → post_at table t ≡ set_of arcs t true
  unfolding table
  post_is t h = read_post arcs act n t h (set_low t true)

  entry_is : (t : ℕ) → t < n → field 3 (t * 24 + 16) table ≡ act t
  unfolding table
  entry_is t h = read_entry arcs act n t h (let l : act t ≤ 131071 = fits.low t in omega arith)

  mark_is : (t : ℕ) → t < n → mark_at table t ≤ 1
  unfolding table
  mark_is t h = mark_low table (records_bytes arcs (countdown act n)) t (omega (arith, entry_is t h, fits.low t))

  spare_is : (t : ℕ) → t < n → spare_at table t ≡ 0
  unfolding table
  spare_is t h = read_spare arcs act n t h

  -- ---- loading

  below : (t : ℕ) → t < transitions table → t < n
  below t h = subst (λ (x : ℕ). t < x) count h

  has : (m : ℕ) → within places m ≡ true → Loaded places m table
  has m w =
      record {
        places_least = fits.places_least;
        places_most = fits.places_most;
        marking = w;
        size = whole.0;
        whole = let e : transitions table ≡ n = count in let s : length table ≡ n * 24 = size in omega arith;
        least = subst (λ (x : ℕ). 1 ≤ x) (sym count) fits.least;
        most = subst (λ (x : ℕ). x ≤ 64) (sym count) fits.most;
        pre = λ t h. ap (within places) (pre_is t (below t h)) ∙ within_places t false;
        post = λ t h. ap (within places) (post_is t (below t h)) ∙ within_places t true;
        mark = λ t h. mark_is t (below t h);
        spare = λ t h. spare_is t (below t h);
      }

  pub loads : (m : ℕ) → within places m ≡ true → (load_fault places m (records_of arcs (countdown act n))).number ≡ 0
  unfolding table
  loads m w = ap (λ f. f.number) (sym (has_load places m table (has m w)))

  -- ---- the net

  net : Net
  net = net_of places table

  net_sets : (t : ℕ) → t < n → (q : Bool) → cond q (post_of net t) (pre_of net t) ≡ set_of arcs t q
  unfolding net
  net_sets t h true = decoded_post places table whole.0 t (subst (λ (x : ℕ). t < x) (sym count) h) ∙ post_is t h
  net_sets t h false = decoded_pre places table whole.0 t (subst (λ (x : ℕ). t < x) (sym count) h) ∙ pre_is t h

  net_entry : (t : ℕ) → t < n → entry_of net t ≡ act t
  unfolding net
  net_entry t h =
      entry_decoded places table whole.0 t (subst (λ (x : ℕ). t < x) (sym count) h) ∙ entry_field table t (mark_is t h) ∙ entry_is t h

  pub net_count : (net_of places (records_of arcs (countdown act n))).transitions ≡ n
  unfolding table net_of
  net_count = count

  pub net-arcs : net_arcs (net_of places (records_of arcs (countdown act n))) n ≡ arcs
  unfolding table net net_of
  net-arcs = arcs_again net n arcs fits.fine net_sets

  pub net_entries : countdown (entry_of (net_of places (records_of arcs (countdown act n)))) n ≡ countdown act n
  unfolding table net
  net_entries = countdown_ext (entry_of net) act n net_entry
