-- The decimal digits of a number, one at a time, and how many there are. Assumes nothing.
use mathlib.Core.Path.{◌≡◌, refl, ap, ◌∙◌, subst}
use mathlib.Core.Bool.{Bool, true, false, cond}
use mathlib.Core.List.{List, [], ◌∷◌, ◌++◌}
use Prim.Native.Nat.{ℕ, zero, suc, ◌+◌, ◌/◌, ◌%◌, ◌^◌, ◌≤◌, ◌<◌, zero-le, suc-le-suc}
use native.Mathlib.Nat.{not-suc-le-zero, div-lt_self, div-lt_iff_lt-mul, pow-suc, le_refl}
use native.Mathlib.Omega.{arith}
use lib.ListN.{length, length-append}
use lib.Dec.{ltb}
use borrow.Author.Tests.{lt-ltb, le-ltb, ltb-false}
use Rattle.texts.specs.Text.{digits, decimal}

-- one digit more or one digit in all
abbrev step : Bool → ℕ → List ℕ → List ℕ
step b n rest = cond b ((48 + n) ∷ []) (rest ++ ((48 + n % 10) ∷ []))

-- any room above n is enough
enough : (f g n : ℕ) → n < f → n < g → digits f n ≡ digits g n
unfolding digits
enough zero g n p q = absurd (not-suc-le-zero p)
enough (suc f) zero n p q = absurd (not-suc-le-zero q)
enough (suc f) (suc g) n p q =
    by (ltb n 10) refl (λ l. let d : n / 10 < n = div-lt_self (omega arith) (omega arith) in enough f g (n / 10) (omega arith) (omega arith))
  where
    by : (b : Bool) → ltb n 10 ≡ b → (10 ≤ n → digits f (n / 10) ≡ digits g (n / 10)) → step b n (digits f (n / 10)) ≡ step b n (digits g (n / 10))
    by true e rest = refl
    by false e rest = ap (λ r. r ++ ((48 + n % 10) ∷ [])) (rest (ltb-false n 10 e))

pub decimal_one : (n : ℕ) → n < 10 → decimal n ≡ (48 + n) ∷ []
unfolding decimal digits
decimal_one n h = ap (λ b. step b n (digits n (n / 10))) (lt-ltb n 10 h)

pub decimal_more : (n : ℕ) → 10 ≤ n → decimal n ≡ decimal (n / 10) ++ ((48 + n % 10) ∷ [])
unfolding decimal digits
decimal_more n h =
    let d : n / 10 < n = div-lt_self (omega arith) (omega arith) in
    ap (λ b. step b n (digits n (n / 10))) (le-ltb n 10 h)
    ∙ ap (λ r. r ++ ((48 + n % 10) ∷ [])) (enough n (suc (n / 10)) (n / 10) d (le_refl _))

-- how many digits: k + 1 at most below 10 ^ (k + 1)
digits_length : (f k n : ℕ) → n < 10 ^ suc k → length (digits f n) ≤ suc k
unfolding digits
digits_length zero k n h = zero-le
digits_length (suc f) k n h = by k (ltb n 10) refl h (λ j. digits_length f j (n / 10))
  where
    by : (k : ℕ) (b : Bool) → ltb n 10 ≡ b → n < 10 ^ suc k
        → ((j : ℕ) → n / 10 < 10 ^ suc j → length (digits f (n / 10)) ≤ suc j)
        → length (step b n (digits f (n / 10))) ≤ suc k
    by k true e h rest = suc-le-suc zero-le
    by zero false e h rest = let l : 10 ≤ n = ltb-false n 10 e in absurd (omega arith)
    by (suc k) false e h rest =
        let i = rest k ((div-lt_iff_lt-mul (omega arith)).1 (subst (λ (m : ℕ). n < m) (pow-suc 10 (suc k)) h)) in
        simp length-append (omega arith)

pub decimal_length : (k n : ℕ) → n < 10 ^ suc k → length (decimal n) ≤ suc k
unfolding decimal
decimal_length k n h = digits_length (suc n) k n h

-- a word of 64 bits has 20 digits at most, and a byte 3
pub word_length : (n : ℕ) → n < 2 ^ 64 → length (decimal n) ≤ 20
word_length n h = decimal_length 19 n (omega arith)

pub byte_length : (n : ℕ) → n < 256 → length (decimal n) ≤ 3
byte_length n h = decimal_length 2 n (omega arith)
