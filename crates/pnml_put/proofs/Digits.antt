-- A number that is put digit by digit, the first of them first. Assumes nothing.
use mathlib.Core.Path.{◌≡◌, refl, sym, ap, ap₂, ◌∙◌}
use mathlib.Core.Bool.{cond}
use mathlib.Core.Logic.{◌⊎◌, inl, inr}
use mathlib.Core.List.{List, [], ◌∷◌, ◌++◌}
use Prim.Native.Nat.{ℕ, zero, suc, ◌+◌, ◌-◌, ◌*◌, ◌/◌, ◌%◌, ◌^◌, ◌≤◌, ◌<◌}
use native.Mathlib.Omega.{arith}
use native.Mathlib.Nat.{mod-eq_of_lt, div-eq_of_lt, le-div_iff_mul-le}
use Rattle.std.proofs.lemmas.Bool.{cases_lt}
use lib.ListN.{get_or, set}
use lib.Dec.{eqb}
use borrow.Author.Tests.{ne_eqb}
use Rattle.texts.specs.Text.{decimal}
use Rattle.texts.proofs.Digits.{decimal_one, decimal_more}
use Rattle.pnml_put.specs.Put.{Put}
use Rattle.pnml_put.proofs.Puts.{join, recast, byte, start}

-- the digits that stand for n before further digits: none where n is 0
abbrev pub leading : ℕ → List ℕ
leading n = cond (eqb n 0) [] (decimal n)

leading_some : (n : ℕ) → 1 ≤ n → leading n ≡ decimal n
leading_some n h = ap (λ b. cond {A = List ℕ} b [] (decimal n)) (ne_eqb n 0 (λ e. omega arith))

-- the digits before the last, and the last
digits_split : (n : ℕ) → leading (n / 10) ++ (48 + n % 10) ∷ [] ≡ decimal n
digits_split n = by (cases_lt n 10)
  where
    by : (n < 10) ⊎ (10 ≤ n) → leading (n / 10) ++ (48 + n % 10) ∷ [] ≡ decimal n
    by (inl h) =
        let e : n / 10 ≡ 0 = omega arith in
        let f : n % 10 ≡ n = omega arith in
        ap₂ (λ (x y : ℕ). leading x ++ (48 + y) ∷ []) e f ∙ sym (decimal_one n h)
    by (inr h) = ap (λ (x : List ℕ). x ++ (48 + n % 10) ∷ []) (leading_some (n / 10) (omega arith)) ∙ sym (decimal_more n h)

-- the next digit
digit_more : {k at next d m : ℕ} {l l' : List ℕ} (n : ℕ) → m ≡ n / 10 → d ≡ n % 10 → Put k l l' at (leading m) next
    → Put (k + 1) l (set l' next (48 + d)) at (decimal n) (next + 1)
digit_more {k} {at} {next} {d} {m} {l} {l'} n e f p =
    recast (omega arith) (ap₂ (λ (x y : ℕ). leading x ++ (48 + y) ∷ []) e f ∙ digits_split n) (join p (byte l' next (48 + d)))

-- the powers of ten as the code has them
power_at : (i : ℕ) → i < 5 → get_or {A = ℕ} (1 ∷ 10 ∷ 100 ∷ 1000 ∷ 10000 ∷ []) i 0 ≡ 10 ^ i
power_at zero h = refl
power_at (suc zero) h = refl
power_at (suc (suc zero)) h = refl
power_at (suc (suc (suc zero))) h = refl
power_at (suc (suc (suc (suc zero)))) h = refl
power_at (suc (suc (suc (suc (suc i))))) h = absurd (omega arith)

-- a number's parts by a power of ten and the next, and these powers
parts : (n j : ℕ) → j < 5
    → (n / 10 ^ j / 10 ≡ n / 10 ^ (j + 1)) × (n % 10 ^ (j + 1) / 10 ^ j ≡ n / 10 ^ j % 10) × (n % 10 ^ (j + 1) % 10 ^ j ≡ n % 10 ^ j)
    × (1 ≤ 10 ^ j) × (10 ^ j ≤ 10 ^ (j + 1))
parts n zero h = (omega arith, omega arith, omega arith, omega arith, omega arith)
parts n (suc zero) h = (omega arith, omega arith, omega arith, omega arith, omega arith)
parts n (suc (suc zero)) h = (omega arith, omega arith, omega arith, omega arith, omega arith)
parts n (suc (suc (suc zero))) h = (omega arith, omega arith, omega arith, omega arith, omega arith)
parts n (suc (suc (suc (suc zero)))) h = (omega arith, omega arith, omega arith, omega arith, omega arith)
parts n (suc (suc (suc (suc (suc j))))) h = absurd (omega arith)

module _ (n i : ℕ) where
  abbrev unit : ℕ
  unit = get_or {A = ℕ} (1 ∷ 10 ∷ 100 ∷ 1000 ∷ 10000 ∷ []) (i - 1) 0

  -- by the power before
  here : (1 < i) × (i ≤ 5) → (unit ≡ 10 ^ (i - 1)) × (n / 10 ^ (i - 1) / 10 ≡ n / 10 ^ i) × (n % 10 ^ i / 10 ^ (i - 1) ≡ n / 10 ^ (i - 1) % 10) × (n % 10 ^ i % 10 ^ (i - 1) ≡ n % 10 ^ (i - 1))
      × (1 ≤ 10 ^ (i - 1)) × (10 ^ (i - 1) ≤ 10 ^ i)
  here few =
      let lt : i - 1 < 5 = omega arith in
      let e : i - 1 + 1 ≡ i = omega arith in
      let p = parts n (i - 1) lt in (
        power_at (i - 1) lt,
        p.0 ∙ ap (λ (x : ℕ). n / 10 ^ x) e,
        ap (λ (x : ℕ). n % 10 ^ x / 10 ^ (i - 1)) (sym e) ∙ p.1,
        ap (λ (x : ℕ). n % 10 ^ x % 10 ^ (i - 1)) (sym e) ∙ p.2,
        p.3,
        omega (arith, p.4, ap (λ (x : ℕ). 10 ^ x) e),
      )

  -- a number that has this digit
  pub digit_put : {at most next rest : ℕ} {l l' : List ℕ} → (1 < i) × (i ≤ most) × (most ≤ 5) → unit ≤ n → rest ≡ n % 10 ^ i
      → Put (most - i) l l' at (leading (n / 10 ^ i)) next
      → (rest % unit ≡ n % 10 ^ (i - 1)) × Put (most - (i - 1)) l (set l' next (48 + rest / unit)) at (leading (n / 10 ^ (i - 1))) (next + 1)
  digit_put {at} {most} {next} {rest} {l} {l'} few h e p =
      let w = here (few.0, omega arith) in
      let le : 1 * 10 ^ (i - 1) ≤ n = omega (arith, h, w.0) in
      let some : 1 ≤ n / 10 ^ (i - 1) = (le-div_iff_mul-le w.4).1 le in (
        ap₂ (λ (x y : ℕ). x % y) e w.0 ∙ w.3,
        recast (omega arith) (sym (leading_some (n / 10 ^ (i - 1)) some))
            (digit_more (n / 10 ^ (i - 1)) (sym w.1) (ap₂ (λ (x y : ℕ). x / y) e w.0 ∙ w.2) p),
      )

  -- a number that is too small for it
  pub digit_passed : {at most next rest : ℕ} {l l' : List ℕ} → (1 < i) × (i ≤ most) × (most ≤ 5) → n < unit → rest ≡ n % 10 ^ i
      → Put (most - i) l l' at (leading (n / 10 ^ i)) next
      → (rest ≡ n % 10 ^ (i - 1)) × Put (most - (i - 1)) l l' at (leading (n / 10 ^ (i - 1))) next
  digit_passed {at} {most} {next} {rest} {l} {l'} few h e p =
      let w = here (few.0, omega arith) in
      let lt : n < 10 ^ (i - 1) = omega (arith, h, w.0) in
      let none : n / 10 ^ (i - 1) ≡ 0 = div-eq_of_lt lt in
      let same : n % 10 ^ i ≡ n = mod-eq_of_lt (omega (arith, lt, w.5)) in
      let less : n / 10 ^ i ≡ n / 10 ^ (i - 1) = sym w.1 ∙ ap (λ (x : ℕ). x / 10) none ∙ sym none in
      (e ∙ same ∙ sym (mod-eq_of_lt lt), recast (omega arith) (ap leading less) p)

-- nothing yet, where all digits are to come
pub none_put : (l : List ℕ) (at most n : ℕ) → n < 10 ^ most → (n ≡ n % 10 ^ most) × Put (most - most) l l at (leading (n / 10 ^ most)) at
none_put l at most n h = (sym (mod-eq_of_lt h), recast (omega arith) (sym (ap leading (div-eq_of_lt h))) (start l at))

pub last_digit : {i : ℕ} (n rest : ℕ) → 1 ≤ i → i ≤ 1 → rest ≡ n % 10 ^ i → rest < 10
last_digit {i} n rest h k e =
    let o : i ≡ 1 = omega arith in
    let f = e ∙ ap (λ (x : ℕ). n % 10 ^ x) o in omega arith

-- the last digit
pub last_put : {at most next rest i : ℕ} {l l' : List ℕ} (n : ℕ) → 1 ≤ i → i ≤ 1 → 1 ≤ most → rest ≡ n % 10 ^ i
    → Put (most - i) l l' at (leading (n / 10 ^ i)) next → Put most l (set l' next (48 + rest)) at (decimal n) (next + 1)
last_put {at} {most} {next} {rest} {i} {l} {l'} n h k m e p =
    let o : i ≡ 1 = omega arith in
    recast (omega arith) refl (digit_more n (ap (λ (x : ℕ). n / 10 ^ x) o) (e ∙ ap (λ (x : ℕ). n % 10 ^ x) o) p)
