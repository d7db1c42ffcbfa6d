-- The joint net of two that fit: loading finds no fault in it, and its transitions are those of the halves. Assumes nothing.
use mathlib.Core.Path.{◌≡◌, sym, ap, ◌∙◌, subst}
use mathlib.Core.Bool.{true}
use mathlib.Core.Logic.{◌⊎◌, inl, inr}
use Prim.Native.Nat.{ℕ, ◌+◌, ◌-◌, ◌^◌, ◌≤◌, ◌<◌}
use native.Mathlib.Omega.{arith}
use lib.Dec.{eqb}
use Rattle.tables.proofs.Below.{lt_or_ge}
use Rattle.bitset.specs.Sets.{member, within, shifted}
use Rattle.bitset.proofs.Relations.{within_more}
use Rattle.bitset.proofs.Shifts.{within_shifted}
use Rattle.net.specs.Step.{pre_of, post_of, action_of}
use Rattle.net.specs.Table.{pre_at, post_at, mark_at, spare_at, optional_at, transitions, table_sized}
use Rattle.net.specs.Answer.{no_fault}
use Rattle.net.proofs.Answers.{decoded_pre, decoded_post, decoded_action, decoded_optional}
use Rattle.net.proofs.Loaded.{Loaded, sized_by, has_load}
use Rattle.join.specs.Joint.{Marked, net_by, beside, joint}
use Rattle.join.specs.Answer.{half_fault, size_fault}
use Rattle.join.proofs.Fitting as fitting
use Rattle.join.proofs.Beside.{beside_within}
use Rattle.join.proofs.Reading as reading

module _ (f s : Marked) (p : half_fault f ≡ no_fault) (q : half_fault s ≡ no_fault) (e : size_fault f s ≡ no_fault) where
  -- what the halves have
  first : Loaded f.places f.marking f.bytes
  first = fitting.half_has f p

  second : Loaded s.places s.marking s.bytes
  second = fitting.half_has s q

  abbrev n : ℕ
  n = transitions f.bytes

  abbrev m : ℕ
  m = transitions s.bytes

  -- ---- size

  whole : (table_sized (joint f s).bytes ≡ true) × (transitions (joint f s).bytes ≡ n + m)
  whole =
      sized_by (joint f s).bytes (n + m) (omega (arith, fitting.joint_length f s q, first.whole, second.whole))
      (omega (arith, first.least)) (fitting.count_most f s e)

  pub joint_count : transitions (joint f s).bytes ≡ n + m
  joint_count = whole.1

  -- a transition of the joint net is one of the first half or one of the second
  low : (t : ℕ) → t < n → t < transitions (joint f s).bytes
  low t h = omega (arith, joint_count)

  high : (u : ℕ) → u < m → n + u < transitions (joint f s).bytes
  high u h = omega (arith, joint_count)

  cases : (P : ℕ → Type 0) → ((t : ℕ) → t < n → P t) → ((u : ℕ) → u < m → P (n + u)) → (t : ℕ) → t < transitions (joint f s).bytes → P t
  cases P a b t h = by (lt_or_ge t n)
    where
      by : (t < n) ⊎ (n ≤ t) → P t
      by (inl l) = a t l
      by (inr l) = let d : n + (t - n) ≡ t = omega arith in subst P d (b (t - n) (omega (arith, joint_count)))

  -- ---- its records

  pre_fits : (u : ℕ) → u < m → shifted f.places (pre_at s.bytes u) < 256 ^ 8
  pre_fits u h = (fitting.fits f s p q e).pre u h

  post_fits : (u : ℕ) → u < m → shifted f.places (post_at s.bytes u) < 256 ^ 8
  post_fits u h = (fitting.fits f s p q e).post u h

  loaded : Loaded (f.places + s.places) (beside f.places f.marking s.marking) (joint f s).bytes
  loaded =
      record {
        places_least = omega (arith, first.places_least);
        places_most = fitting.places_most f s e;
        marking = beside_within f.places s.places f.marking s.marking first.marking second.marking;
        size = whole.0;
        whole = omega (arith, joint_count, fitting.joint_length f s q, first.whole, second.whole);
        least = omega (arith, joint_count, first.least);
        most = omega (arith, joint_count, fitting.count_most f s e);
        pre = cases (λ t. within (f.places + s.places) (pre_at (joint f s).bytes t) ≡ true)
            (λ t h. ap (within (f.places + s.places)) (reading.first_pre f s first.whole t h) ∙ within_more f.places s.places _ (first.pre t h))
            (λ u h.
            ap (within (f.places + s.places)) (reading.second_pre f s first.whole u h (pre_fits u h))
            ∙ within_shifted f.places s.places _ (second.pre u h));
        post = cases (λ t. within (f.places + s.places) (post_at (joint f s).bytes t) ≡ true)
            (λ t h. ap (within (f.places + s.places)) (reading.first_post f s first.whole t h) ∙ within_more f.places s.places _ (first.post t h))
            (λ u h.
            ap (within (f.places + s.places)) (reading.second_post f s first.whole u h (post_fits u h))
            ∙ within_shifted f.places s.places _ (second.post u h));
        mark = cases (λ t. mark_at (joint f s).bytes t ≤ 1)
            (λ t h. subst (λ (x : ℕ). x ≤ 1) (sym (reading.first_mark f s first.whole t h)) (first.mark t h))
            (λ u h. subst (λ (x : ℕ). x ≤ 1) (sym (reading.second_mark f s first.whole u h)) (second.mark u h));
        spare = cases (λ t. spare_at (joint f s).bytes t ≡ 0)
            (λ t h. reading.first_spare f s first.whole t h ∙ first.spare t h)
            (λ u h. reading.second_spare f s first.whole u h ∙ second.spare u h);
      }

  pub joint_loads : half_fault (joint f s) ≡ no_fault
  unfolding joint
  joint_loads = sym (has_load (f.places + s.places) (beside f.places f.marking s.marking) (joint f s).bytes loaded)

  -- ---- its transitions

  -- of the first half
  module _ (t : ℕ) (h : t < n) where
    pub pre_first : pre_of (net_by (joint f s)) t ≡ pre_of (net_by f) t
    pre_first =
        decoded_pre _ (joint f s).bytes whole.0 t (low t h)
        ∙ reading.first_pre f s first.whole t h
        ∙ sym (decoded_pre f.places f.bytes first.size t h)

    pub post_first : post_of (net_by (joint f s)) t ≡ post_of (net_by f) t
    post_first =
        decoded_post _ (joint f s).bytes whole.0 t (low t h)
        ∙ reading.first_post f s first.whole t h
        ∙ sym (decoded_post f.places f.bytes first.size t h)

    pub action_first : action_of (net_by (joint f s)) t ≡ action_of (net_by f) t
    action_first =
        decoded_action _ (joint f s).bytes whole.0 t (low t h)
        ∙ reading.first_action f s first.whole t h
        ∙ sym (decoded_action f.places f.bytes first.size t h)

    pub optional_first : member (net_by (joint f s)).optional t ≡ member (net_by f).optional t
    unfolding optional_at
    optional_first =
        decoded_optional _ (joint f s).bytes whole.0 t (low t h)
        ∙ ap (λ (x : ℕ). eqb x 1) (reading.first_mark f s first.whole t h)
        ∙ sym (decoded_optional f.places f.bytes first.size t h)

    -- its sets are within the first half's places
    pub pre_in : within f.places (pre_of (net_by f) t) ≡ true
    pre_in = ap (within f.places) (decoded_pre f.places f.bytes first.size t h) ∙ first.pre t h

    pub post_in : within f.places (post_of (net_by f) t) ≡ true
    post_in = ap (within f.places) (decoded_post f.places f.bytes first.size t h) ∙ first.post t h

  -- of the second
  module _ (u : ℕ) (h : u < m) where
    pub pre_second : pre_of (net_by (joint f s)) (n + u) ≡ shifted f.places (pre_of (net_by s) u)
    pre_second =
        decoded_pre _ (joint f s).bytes whole.0 (n + u) (high u h)
        ∙ reading.second_pre f s first.whole u h (pre_fits u h)
        ∙ ap (shifted f.places) (sym (decoded_pre s.places s.bytes second.size u h))

    pub post_second : post_of (net_by (joint f s)) (n + u) ≡ shifted f.places (post_of (net_by s) u)
    post_second =
        decoded_post _ (joint f s).bytes whole.0 (n + u) (high u h)
        ∙ reading.second_post f s first.whole u h (post_fits u h)
        ∙ ap (shifted f.places) (sym (decoded_post s.places s.bytes second.size u h))

    pub action_second : action_of (net_by (joint f s)) (n + u) ≡ action_of (net_by s) u
    action_second =
        decoded_action _ (joint f s).bytes whole.0 (n + u) (high u h)
        ∙ reading.second_action f s first.whole u h
        ∙ sym (decoded_action s.places s.bytes second.size u h)

    pub optional_second : member (net_by (joint f s)).optional (n + u) ≡ member (net_by s).optional u
    unfolding optional_at
    optional_second =
        decoded_optional _ (joint f s).bytes whole.0 (n + u) (high u h)
        ∙ ap (λ (x : ℕ). eqb x 1) (reading.second_mark f s first.whole u h)
        ∙ sym (decoded_optional s.places s.bytes second.size u h)
