-- A list of numbers as a countdown; the marks that a marking gives back. Assumes nothing.
use mathlib.Core.Path.{◌≡◌, refl, ap, ap₂, ◌∙◌}
use mathlib.Core.Bool.{Bool, true, false, cond, ◌&&◌, ◌||◌, or-false, and-true}
use mathlib.Core.List.{List, [], ◌∷◌}
use Prim.Native.Nat.{ℕ, zero, suc, ◌≤◌, ◌<◌, zero-le}
use native.Mathlib.Nat.{lt-suc_self, lt_trans}
use native.Mathlib.Omega.{arith}
use lib.ListN.{length}
use lib.Dec.{eqb, leb}
use borrow.Author.Tests.{leb-true, eq-eqb, ne_eqb}
use Rattle.tables.proofs.Tests.{and_left, and_right, failed}
use Rattle.bitset.specs.Sets.{member, add, within}
use Rattle.bitset.proofs.Relations.{within_member, within_wide}
use Rattle.pnml_shape.specs.Drawing.{at_most}
use Rattle.pnml_net.specs.Nets.{countdown, numbered, mark_of, marking_of}
use Rattle.pnml_net.proofs.Members.{member_add, within_add, within_more}

-- ---- a list as a countdown

pub countdown_ext : (f g : ℕ → ℕ) (n : ℕ) → ((k : ℕ) → k < n → f k ≡ g k) → countdown f n ≡ countdown g n
unfolding countdown
countdown_ext f g zero h = refl
countdown_ext f g (suc n) h = ap₂ ◌∷◌ (h n (lt-suc_self n)) (countdown_ext f g n (λ k l. h k (lt_trans l (lt-suc_self n))))

-- the elements before the last one
pub numbered_before : (a : ℕ) (l : List ℕ) (k : ℕ) → k < length l → numbered (a ∷ l) k ≡ numbered l k
unfolding numbered
numbered_before a l k h = ap (λ b. cond b a (numbered l k)) (ne_eqb k (length l) (λ e. omega arith))

pub numbered_last : (a : ℕ) (l : List ℕ) → numbered (a ∷ l) (length l) ≡ a
unfolding numbered
numbered_last a l = ap (λ b. cond b a (numbered l (length l))) (eq-eqb (length l) (length l) refl)

pub numbered_all : (l : List ℕ) → countdown (numbered l) (length l) ≡ l
unfolding countdown
numbered_all [] = refl
numbered_all (a ∷ l) = ap₂ ◌∷◌ (numbered_last a l) (countdown_ext (numbered (a ∷ l)) (numbered l) (length l) (numbered_before a l) ∙ numbered_all l)

-- none is above a bound of the list
pub numbered_most : (b : ℕ) (l : List ℕ) → at_most b l ≡ true → (t : ℕ) → numbered l t ≤ b
unfolding numbered at_most
numbered_most b [] h t = zero-le
numbered_most b (a ∷ l) h t =
    by (numbered_most b l (and_right (leb a b) (at_most b l) h) t) (leb-true a b (and_left (leb a b) (at_most b l) h)) (eqb t (length l))
  where
    by : numbered l t ≤ b → a ≤ b → (c : Bool) → cond c a (numbered l t) ≤ b
    by r u true = u
    by r u false = r

-- ---- marks

pub marking_within : (l : List ℕ) → within (length l) (marking_of l) ≡ true
unfolding marking_of
marking_within [] = within_wide 0 0 0 (lt-suc_self 0) zero-le
marking_within (m ∷ l) =
    within_add (suc (length l)) (marking_of l) (length l) (eqb m 1)
    (within_more (length l) (suc (length l)) (marking_of l) (omega arith) (marking_within l)) (lt-suc_self (length l))

-- a number added to a set of lower ones
added : (n s : ℕ) (b : Bool) → within n s ≡ true → member (add s n b) n ≡ b
added n s b h =
    member_add s n b n
    ∙ ap₂ (λ x y. x || (b && y)) (failed (member s n) (λ e. let l : n < n = within_member n s h n e in omega arith)) (eq-eqb n n refl)
    ∙ and-true b

-- changes nothing below it
kept : (n s : ℕ) (b : Bool) (k : ℕ) → k < n → member (add s n b) k ≡ member s k
kept n s b k h = member_add s n b k ∙ ap (λ y. member s k || y) (none b) ∙ or-false (member s k)
  where
    none : (b : Bool) → (b && eqb k n) ≡ false
    none true = ne_eqb k n (λ e. omega arith)
    none false = refl

mark_is : (m : ℕ) → m ≤ 1 → cond (eqb m 1) 1 0 ≡ m
mark_is zero h = refl
mark_is (suc zero) h = refl
mark_is (suc (suc m)) h = absurd (omega arith)

-- marks read and drawn again are the same
pub marks_again : (l : List ℕ) → at_most 1 l ≡ true → countdown (mark_of (marking_of l)) (length l) ≡ l
unfolding countdown marking_of mark_of at_most
marks_again [] h = refl
marks_again (m ∷ l) h =
    let s = marking_of l in
    let n = length l in
    ap₂ ◌∷◌
    (ap (λ b. cond b 1 0) (added n s (eqb m 1) (marking_within l)) ∙ mark_is m (leb-true m 1 (and_left (leb m 1) (at_most 1 l) h)))
    (countdown_ext (mark_of (add s n (eqb m 1))) (mark_of s) n (λ k u. ap (λ b. cond b 1 0) (kept n s (eqb m 1) k u))
    ∙ marks_again l (and_right (leb m 1) (at_most 1 l) h))
