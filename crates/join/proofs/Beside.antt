-- A marking of each half as one of the joint net: its members, and a transition of one half there. For all sets of places. Assumes nothing.
use mathlib.Core.Path.{◌≡◌, refl, sym, ap, ap₂, ◌∙◌}
use mathlib.Core.Bool.{Bool, true, false, not, ◌&&◌, ◌||◌, or-false}
use Prim.Native.Nat.{ℕ, ◌+◌, ◌-◌, ◌/◌, ◌^◌, ◌≤◌, ◌<◌}
use native.Mathlib.Omega.{arith}
use borrow.Author.Tests.{lt-ltb}
use Rattle.tables.proofs.Tests.{failed}
use Rattle.bitset.specs.Sets.{member, disjoint, difference, union, within, shifted, collect}
use Rattle.bitset.proofs.Membership.{member_shift, member_union}
use Rattle.bitset.proofs.Relations.{within_member, member_within, within_more, union_within, collect_lt, member_collect}
use Rattle.bitset.proofs.Shifts.{split_ext, shifted_low, shifted_high, shifted_member, shifted_union, shifted_difference, shifted_subset, shifted_disjoint, within_shifted}
use Rattle.net.specs.Step.{enabled_by, fired_by}
use Rattle.net.proofs.Independence.{enabled_by_agree, member_fired_by}
use Rattle.join.specs.Joint.{beside}

-- a set within n has no member from n on
within_none : (n s k : ℕ) → within n s ≡ true → member s (n + k) ≡ false
within_none n s k h = failed (member s (n + k)) (λ p. let l : n + k < n = within_member n s h (n + k) p in omega arith)

module _ (n : ℕ) where
  -- ---- members

  pub beside_low : (a b k : ℕ) → k < n → member (beside n a b) k ≡ member a k
  unfolding beside
  beside_low a b k h = member_union a (shifted n b) k ∙ ap (λ x. member a k || x) (shifted_low n b k h) ∙ or-false (member a k)

  -- from n on, whatever the first set is
  beside_or : (a b k : ℕ) → member (beside n a b) (n + k) ≡ (member a (n + k) || member b k)
  unfolding beside
  beside_or a b k = member_union a (shifted n b) (n + k) ∙ ap (λ x. member a (n + k) || x) (shifted_high n b k)

  pub beside_high : (a b k : ℕ) → within n a ≡ true → member (beside n a b) (n + k) ≡ member b k
  beside_high a b k h = beside_or a b k ∙ ap (λ x. x || member b k) (within_none n a k h)

  -- ---- markings

  pub beside_within : (w a b : ℕ) → within n a ≡ true → within w b ≡ true → within (n + w) (beside n a b) ≡ true
  unfolding beside
  beside_within w a b p q = union_within (n + w) a (shifted n b) (within_more n w a p) (within_shifted n w b q)

  -- each marking of the joint net is one of each half
  pub beside_parts : (w m : ℕ) → within (n + w) m ≡ true → (a : ℕ) × (b : ℕ) × (within n a ≡ true) × (within w b ≡ true) × (m ≡ beside n a b)
  beside_parts w m h = (collect (member m) n, m / 2 ^ n, low, high, split_ext n m (beside n (collect (member m) n) (m / 2 ^ n)) below above)
    where
      low : within n (collect (member m) n) ≡ true
      low = unfold within in lt-ltb (collect (member m) n) (2 ^ n) (collect_lt (member m) n)

      high : within w (m / 2 ^ n) ≡ true
      high =
          member_within w (m / 2 ^ n)
          (λ k p. let l : n + k < n + w = within_member (n + w) m h (n + k) (sym (member_shift m n k) ∙ p) in omega arith)

      below : (k : ℕ) → k < n → member m k ≡ member (beside n (collect (member m) n) (m / 2 ^ n)) k
      below k l =
          sym
          (beside_low (collect (member m) n) (m / 2 ^ n) k l
          ∙ member_collect (member m) n k
          ∙ ap (λ x. x && member m k) (lt-ltb k n l))

      above : (k : ℕ) → member m (n + k) ≡ member (beside n (collect (member m) n) (m / 2 ^ n)) (n + k)
      above k = sym (beside_high (collect (member m) n) (m / 2 ^ n) k low ∙ member_shift m n k)

  -- ---- a transition of the first half, whose sets are within n

  module _ (pre post : ℕ) (p : within n pre ≡ true) (q : within n post ≡ true) where
    pub low_enabled : (a b : ℕ) → enabled_by pre post (beside n a b) ≡ enabled_by pre post a
    low_enabled a b =
        enabled_by_agree pre post (beside n a b) a
        (λ k h. beside_low a b k (within_member n (union pre post) (union_within n pre post p q) k h))

    pub low_fired : (a b : ℕ) → fired_by pre post (beside n a b) ≡ beside n (fired_by pre post a) b
    low_fired a b = split_ext n (fired_by pre post (beside n a b)) (beside n (fired_by pre post a) b) low high
      where
        low : (k : ℕ) → k < n → member (fired_by pre post (beside n a b)) k ≡ member (beside n (fired_by pre post a) b) k
        low k h =
            member_fired_by pre post (beside n a b) k
            ∙ ap (λ x. (x && not (member pre k)) || member post k) (beside_low a b k h)
            ∙ sym (beside_low (fired_by pre post a) b k h ∙ member_fired_by pre post a k)

        high : (k : ℕ) → member (fired_by pre post (beside n a b)) (n + k) ≡ member (beside n (fired_by pre post a) b) (n + k)
        high k =
            member_fired_by pre post (beside n a b) (n + k)
            ∙ ap₂ (λ x y. (member (beside n a b) (n + k) && not x) || y) (within_none n pre k p) (within_none n post k q)
            ∙ ap (λ x. (x && true) || false) (beside_or a b k)
            ∙ plain (member a (n + k)) (member b k)
            ∙ sym
            (beside_or (fired_by pre post a) b k
            ∙ ap (λ x. x || member b k)
            (member_fired_by pre post a (n + k)
            ∙ ap₂ (λ x y. (member a (n + k) && not x) || y) (within_none n pre k p) (within_none n post k q)))
          where
            plain : (x y : Bool) → (((x || y) && true) || false) ≡ (((x && true) || false) || y)
            plain true true = refl
            plain true false = refl
            plain false true = refl
            plain false false = refl

  -- ---- a transition of the second half, its sets shifted by n

  shifted_enabled : (pre post b : ℕ) → enabled_by (shifted n pre) (shifted n post) (shifted n b) ≡ enabled_by pre post b
  unfolding enabled_by
  shifted_enabled pre post b =
      ap₂ ◌&&◌ (shifted_subset n pre b)
      (ap (disjoint (shifted n post)) (shifted_difference n b pre) ∙ shifted_disjoint n post (difference b pre))

  module _ (pre post a b : ℕ) (h : within n a ≡ true) where
    pub high_enabled : enabled_by (shifted n pre) (shifted n post) (beside n a b) ≡ enabled_by pre post b
    high_enabled =
        enabled_by_agree (shifted n pre) (shifted n post) (beside n a b) (shifted n b) same ∙ shifted_enabled pre post b
      where
        same : (k : ℕ) → member (union (shifted n pre) (shifted n post)) k ≡ true → member (beside n a b) k ≡ member (shifted n b) k
        same k p =
            let l : n ≤ k = (shifted_member n (union pre post) k (ap (λ (x : ℕ). member x k) (sym (shifted_union n pre post)) ∙ p)).0 in
            let e : k ≡ n + (k - n) = omega arith in
            ap (member (beside n a b)) e
            ∙ beside_high a b (k - n) h
            ∙ sym (ap (member (shifted n b)) e ∙ shifted_high n b (k - n))

    pub high_fired : fired_by (shifted n pre) (shifted n post) (beside n a b) ≡ beside n a (fired_by pre post b)
    high_fired = split_ext n (fired_by (shifted n pre) (shifted n post) (beside n a b)) (beside n a (fired_by pre post b)) low high
      where
        low : (k : ℕ) → k < n → member (fired_by (shifted n pre) (shifted n post) (beside n a b)) k ≡ member (beside n a (fired_by pre post b)) k
        low k l =
            member_fired_by (shifted n pre) (shifted n post) (beside n a b) k
            ∙ ap₂ (λ x y. (member (beside n a b) k && not x) || y) (shifted_low n pre k l) (shifted_low n post k l)
            ∙ ap (λ x. (x && true) || false) (beside_low a b k l)
            ∙ plain (member a k)
            ∙ sym (beside_low a (fired_by pre post b) k l)
          where
            plain : (x : Bool) → ((x && true) || false) ≡ x
            plain true = refl
            plain false = refl

        high : (k : ℕ) → member (fired_by (shifted n pre) (shifted n post) (beside n a b)) (n + k) ≡ member (beside n a (fired_by pre post b)) (n + k)
        high k =
            member_fired_by (shifted n pre) (shifted n post) (beside n a b) (n + k)
            ∙ ap₂ (λ x y. (member (beside n a b) (n + k) && not x) || y) (shifted_high n pre k) (shifted_high n post k)
            ∙ ap (λ x. (x && not (member pre k)) || member post k) (beside_high a b k h)
            ∙ sym (beside_high a (fired_by pre post b) k h ∙ member_fired_by pre post b k)
