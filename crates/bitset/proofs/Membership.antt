-- Membership: what it is of an intersection, a union, a difference, one bit and a collected set; two sets with the same members are
-- equal. For all numbers. Assumes nothing.
use mathlib.Core.Path.{◌≡◌, refl, sym, ap, ap₂, ◌∙◌}
use mathlib.Core.Bool.{true, false, not, ◌&&◌, ◌||◌}
use mathlib.Core.Logic.{◌⊎◌, inl, inr}
use Prim.Native.Nat.{ℕ, zero, suc, ◌+◌, ◌-◌, ◌*◌, ◌/◌, ◌%◌, ◌^◌, ◌≤◌, ◌<◌, min, max}
use native.Mathlib.Nat.{mod-lt, zero-lt-suc, pow-succ', div-one, div-div-eq-div-mul, div-add-mod', zero-div, two-pow-succ}
use native.Mathlib.Omega.{arith}
use lib.Bits.{bit_and, bit_or, and_step, or_step, and_shr, or_shr, and_le_l}
use lib.Arith.{digits_mod, digits_div, bin_ind, lt-one}
use lib.Pow.{shr-shr}
use lib.Dec.{eqb, eqb-zero-suc, eqb-suc-zero, eqb-suc-suc}
use borrow.Author.Tests.{eqb-true, eqb-false}
use Rattle.tables.proofs.Tests.{passed}
use Rattle.bitset.specs.Sets.{member, difference, intersection, union}

-- ---- digits

digit_lt : (n : ℕ) → n % 2 < 2
digit_lt n = mod-lt n (zero-lt-suc 1)

min_digits : (x y : ℕ) → x < 2 → y < 2 → min x y < 2
min_digits x y p q = omega arith

max_digits : (x y : ℕ) → x < 2 → y < 2 → max x y < 2
max_digits x y p q = omega arith

-- the lowest digit of an intersection and of a union
and_digit : (a b : ℕ) → bit_and a b % 2 ≡ min (a % 2) (b % 2)
and_digit a b = ap (λ (x : ℕ). x % 2) (and_step a b) ∙ digits_mod (bit_and (a / 2) (b / 2)) (min_digits _ _ (digit_lt a) (digit_lt b))

or_digit : (a b : ℕ) → bit_or a b % 2 ≡ max (a % 2) (b % 2)
or_digit a b = ap (λ (x : ℕ). x % 2) (or_step a b) ∙ digits_mod (bit_or (a / 2) (b / 2)) (max_digits _ _ (digit_lt a) (digit_lt b))

test_min : (x y : ℕ) → x < 2 → y < 2 → eqb (min x y) 1 ≡ (eqb x 1 && eqb y 1)
test_min zero zero p q = refl
test_min zero (suc zero) p q = refl
test_min (suc zero) zero p q = refl
test_min (suc zero) (suc zero) p q = refl
test_min zero (suc (suc y)) p q = absurd (omega arith)
test_min (suc zero) (suc (suc y)) p q = absurd (omega arith)
test_min (suc (suc x)) y p q = absurd (omega arith)

test_max : (x y : ℕ) → x < 2 → y < 2 → eqb (max x y) 1 ≡ (eqb x 1 || eqb y 1)
test_max zero zero p q = refl
test_max zero (suc zero) p q = refl
test_max (suc zero) zero p q = refl
test_max (suc zero) (suc zero) p q = refl
test_max zero (suc (suc y)) p q = absurd (omega arith)
test_max (suc zero) (suc (suc y)) p q = absurd (omega arith)
test_max (suc (suc x)) y p q = absurd (omega arith)

-- ---- membership, digit by digit

pub member_zero : (s : ℕ) → member s 0 ≡ eqb (s % 2) 1
unfolding member
member_zero s = ap (λ (x : ℕ). eqb (x % 2) 1) (div-one s)

pub member_suc : (s k : ℕ) → member s (suc k) ≡ member (s / 2) k
unfolding member
member_suc s k = ap (λ (x : ℕ). eqb (x % 2) 1) (ap (λ (x : ℕ). s / x) (pow-succ' 2 k) ∙ sym (div-div-eq-div-mul s 2 (2 ^ k)))

-- ---- intersection, union

pub member_and : (a b k : ℕ) → member (bit_and a b) k ≡ (member a k && member b k)
unfolding member
member_and a b k =
    ap (λ (x : ℕ). eqb (x % 2) 1) (and_shr a b k)
    ∙ ap (λ (x : ℕ). eqb x 1) (and_digit (a / 2 ^ k) (b / 2 ^ k))
    ∙ test_min _ _ (digit_lt (a / 2 ^ k)) (digit_lt (b / 2 ^ k))

pub member_intersection : (a b k : ℕ) → member (intersection a b) k ≡ (member a k && member b k)
unfolding intersection
member_intersection = member_and

pub member_union : (a b k : ℕ) → member (union a b) k ≡ (member a k || member b k)
unfolding member union
member_union a b k =
    ap (λ (x : ℕ). eqb (x % 2) 1) (or_shr a b k)
    ∙ ap (λ (x : ℕ). eqb x 1) (or_digit (a / 2 ^ k) (b / 2 ^ k))
    ∙ test_max _ _ (digit_lt (a / 2 ^ k)) (digit_lt (b / 2 ^ k))

-- ---- difference

-- one digit of a difference, and the rest
step_arith : (h x ra rb : ℕ) → x ≤ h → ra < 2 → rb < 2 → (h * 2 + ra) - (x * 2 + min ra rb) ≡ (h - x) * 2 + (ra - min ra rb)
step_arith h x zero rb p q r = simp zero_min_all (omega arith)
  where
    zero_min_all : min 0 rb ≡ 0
    zero_min_all = omega arith
step_arith h x (suc zero) zero p q r = omega arith
step_arith h x (suc zero) (suc zero) p q r = omega arith
step_arith h x (suc zero) (suc (suc rb)) p q r = absurd (omega arith)
step_arith h x (suc (suc ra)) rb p q r = absurd (omega arith)

pub difference_step : (a b : ℕ) → difference a b ≡ difference (a / 2) (b / 2) * 2 + (a % 2 - min (a % 2) (b % 2))
unfolding difference
difference_step a b =
    ap₂ (λ (x y : ℕ). x - y) (sym (div-add-mod' a 2)) (and_step a b)
    ∙ step_arith (a / 2) (bit_and (a / 2) (b / 2)) (a % 2) (b % 2) (and_le_l (a / 2) (b / 2)) (digit_lt a) (digit_lt b)

rest_lt : (x y : ℕ) → x < 2 → x - y < 2
rest_lt x y p = omega arith

test_rest : (x y : ℕ) → x < 2 → y < 2 → eqb (x - min x y) 1 ≡ (eqb x 1 && not (eqb y 1))
test_rest zero zero p q = refl
test_rest zero (suc zero) p q = refl
test_rest (suc zero) zero p q = refl
test_rest (suc zero) (suc zero) p q = refl
test_rest zero (suc (suc y)) p q = absurd (omega arith)
test_rest (suc zero) (suc (suc y)) p q = absurd (omega arith)
test_rest (suc (suc x)) y p q = absurd (omega arith)

difference_low : (a b : ℕ) → difference a b % 2 ≡ a % 2 - min (a % 2) (b % 2)
difference_low a b =
    ap (λ (x : ℕ). x % 2) (difference_step a b) ∙ digits_mod (difference (a / 2) (b / 2)) (rest_lt (a % 2) (min (a % 2) (b % 2)) (digit_lt a))

difference_high : (a b : ℕ) → difference a b / 2 ≡ difference (a / 2) (b / 2)
difference_high a b =
    ap (λ (x : ℕ). x / 2) (difference_step a b) ∙ digits_div (difference (a / 2) (b / 2)) (rest_lt (a % 2) (min (a % 2) (b % 2)) (digit_lt a))

pub member_difference : (a b k : ℕ) → member (difference a b) k ≡ (member a k && not (member b k))
member_difference a b zero =
    member_zero (difference a b)
    ∙ ap (λ (x : ℕ). eqb x 1) (difference_low a b)
    ∙ test_rest (a % 2) (b % 2) (digit_lt a) (digit_lt b)
    ∙ sym (ap₂ (λ x y. x && not y) (member_zero a) (member_zero b))
member_difference a b (suc k) =
    member_suc (difference a b) k
    ∙ ap (λ (x : ℕ). member x k) (difference_high a b)
    ∙ member_difference (a / 2) (b / 2) k
    ∙ sym (ap₂ (λ x y. x && not y) (member_suc a k) (member_suc b k))

-- a difference is an intersection with the complement, at any width that holds both sets
complement_digit : (x y : ℕ) → x < 2 → y < 2 → min x (1 - y) ≡ x - min x y
complement_digit zero zero p q = refl
complement_digit zero (suc zero) p q = refl
complement_digit (suc zero) zero p q = refl
complement_digit (suc zero) (suc zero) p q = refl
complement_digit zero (suc (suc y)) p q = absurd (omega arith)
complement_digit (suc zero) (suc (suc y)) p q = absurd (omega arith)
complement_digit (suc (suc x)) y p q = absurd (omega arith)

half_lt : (n p : ℕ) → n < p + p → n / 2 < p
half_lt n p h = omega arith

complement_half : (b p : ℕ) → b < p + p → ((p + p) - 1 - b) / 2 ≡ (p - 1) - b / 2
complement_half b p h = omega arith

complement_low : (b p : ℕ) → b < p + p → ((p + p) - 1 - b) % 2 ≡ 1 - b % 2
complement_low b p h = omega arith

pub and_complement : (k a b : ℕ) → a < 2 ^ k → b < 2 ^ k → bit_and a ((2 ^ k - 1) - b) ≡ difference a b
unfolding difference
and_complement zero a b p q = simp (lt-one p) refl
and_complement (suc k) a b p q =
    and_step a c
    ∙ ap₂ (λ (x y : ℕ). x * 2 + y)
    (ap (λ (x : ℕ). bit_and (a / 2) x) high ∙ and_complement k (a / 2) (b / 2) (half_lt a (2 ^ k) p') (half_lt b (2 ^ k) q'))
    (ap (λ (x : ℕ). min (a % 2) x) low ∙ complement_digit (a % 2) (b % 2) (digit_lt a) (digit_lt b))
    ∙ sym (difference_step a b)
  where
    c : ℕ
    c = (2 ^ suc k - 1) - b

    p' : a < 2 ^ k + 2 ^ k
    p' = rw (two-pow-succ k) at p

    q' : b < 2 ^ k + 2 ^ k
    q' = rw (two-pow-succ k) at q

    high : c / 2 ≡ (2 ^ k - 1) - b / 2
    high = ap (λ (x : ℕ). (x - 1 - b) / 2) (two-pow-succ k) ∙ complement_half b (2 ^ k) q'

    low : c % 2 ≡ 1 - b % 2
    low = ap (λ (x : ℕ). (x - 1 - b) % 2) (two-pow-succ k) ∙ complement_low b (2 ^ k) q'

-- ---- one bit, shifts

pub member_empty : (k : ℕ) → member 0 k ≡ false
unfolding member
member_empty k = ap (λ (x : ℕ). eqb (x % 2) 1) (zero-div (2 ^ k))

pow_half : (k : ℕ) → 2 ^ suc k / 2 ≡ 2 ^ k
pow_half k = ap (λ (x : ℕ). x / 2) (two-pow-succ k) ∙ omega arith

pow_even : (k : ℕ) → 2 ^ suc k % 2 ≡ 0
pow_even k = ap (λ (x : ℕ). x % 2) (two-pow-succ k) ∙ omega arith

pub member_bit : (n k : ℕ) → member (2 ^ n) k ≡ eqb k n
member_bit zero zero = member_zero (2 ^ 0)
member_bit zero (suc k) = member_suc (2 ^ 0) k ∙ member_empty k ∙ sym (eqb-suc-zero k)
member_bit (suc n) zero = member_zero (2 ^ suc n) ∙ ap (λ (x : ℕ). eqb x 1) (pow_even n) ∙ sym (eqb-zero-suc n)
member_bit (suc n) (suc k) = member_suc (2 ^ suc n) k ∙ ap (λ (x : ℕ). member x k) (pow_half n) ∙ member_bit n k ∙ sym (eqb-suc-suc k n)

pub member_shift : (s n k : ℕ) → member (s / 2 ^ n) k ≡ member s (n + k)
unfolding member
member_shift s n k = ap (λ (x : ℕ). eqb (x % 2) 1) (shr-shr s n k)

-- ---- two sets with the same members are equal

pub low_bit : (s : ℕ) → member s 0 ≡ true → s % 2 ≡ 1
low_bit s h = eqb-true (s % 2) 1 (sym (member_zero s) ∙ h)

pub low_clear : (s : ℕ) → member s 0 ≡ false → s % 2 ≡ 0
low_clear s h = digit_zero (s % 2) (digit_lt s) (eqb-false (s % 2) 1 (sym (member_zero s) ∙ h))
  where
    digit_zero : (x : ℕ) → x < 2 → (x ≡ 1 → ⊥) → x ≡ 0
    digit_zero x p q = omega arith

low_same : (a b : ℕ) → member a 0 ≡ member b 0 → a % 2 ≡ b % 2
low_same a b e = by (passed (member b 0))
  where
    by : (member b 0 ≡ true) ⊎ (member b 0 ≡ false) → a % 2 ≡ b % 2
    by (inl h) = low_bit a (e ∙ h) ∙ sym (low_bit b h)
    by (inr h) = low_clear a (e ∙ h) ∙ sym (low_clear b h)

empty_ext : (b : ℕ) → ((k : ℕ) → member b k ≡ false) → 0 ≡ b
empty_ext = bin_ind (λ b. ((k : ℕ) → member b k ≡ false) → 0 ≡ b) (λ _. refl) step
  where
    step : (b : ℕ) → (((k : ℕ) → member (b / 2) k ≡ false) → 0 ≡ b / 2) → ((k : ℕ) → member b k ≡ false) → 0 ≡ b
    step b ih h =
        let high : 0 ≡ b / 2 = ih (λ k. sym (member_suc b k) ∙ h (suc k)) in
        let low : b % 2 ≡ 0 = low_clear b (h 0) in
        omega arith

pub set_ext : (a b : ℕ) → ((k : ℕ) → member a k ≡ member b k) → a ≡ b
set_ext = bin_ind (λ a. (b : ℕ) → ((k : ℕ) → member a k ≡ member b k) → a ≡ b) base step
  where
    base : (b : ℕ) → ((k : ℕ) → member 0 k ≡ member b k) → 0 ≡ b
    base b h = empty_ext b (λ k. sym (h k) ∙ member_empty k)

    step : (a : ℕ) → ((b : ℕ) → ((k : ℕ) → member (a / 2) k ≡ member b k) → a / 2 ≡ b) → (b : ℕ)
        → ((k : ℕ) → member a k ≡ member b k) → a ≡ b
    step a ih b h =
        let high : a / 2 ≡ b / 2 = ih (b / 2) (λ k. sym (member_suc a k) ∙ h (suc k) ∙ member_suc b k) in
        let low : a % 2 ≡ b % 2 = low_same a b (h 0) in
        omega arith

-- a set that is not empty has a member
pub some_member : (s : ℕ) → (s ≡ 0 → ⊥) → (k : ℕ) × (member s k ≡ true)
some_member = bin_ind (λ s. (s ≡ 0 → ⊥) → (k : ℕ) × (member s k ≡ true)) (λ h. absurd (h refl)) step
  where
    step : (s : ℕ) → ((s / 2 ≡ 0 → ⊥) → (k : ℕ) × (member (s / 2) k ≡ true)) → (s ≡ 0 → ⊥) → (k : ℕ) × (member s k ≡ true)
    step s ih h = by (passed (member s 0))
      where
        by : (member s 0 ≡ true) ⊎ (member s 0 ≡ false) → (k : ℕ) × (member s k ≡ true)
        by (inl e) = (0, e)
        by (inr e) =
            let low : s % 2 ≡ 0 = low_clear s e in
            let r : (k : ℕ) × (member (s / 2) k ≡ true) = ih (λ z. h (omega arith)) in
            (suc r.0, member_suc s r.0 ∙ r.1)
