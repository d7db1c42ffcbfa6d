-- Numbers in the machine: what a digit string can go on to, and the scan of a number. Assumes nothing.
use mathlib.Core.Path.{◌≡◌, refl, sym, ap, ◌∙◌, subst}
use mathlib.Core.Bool.{Bool, true, false, cond, ◌&&◌, ◌||◌, false≢true, true≢false, and-eq-true_iff}
use mathlib.Core.List.{List, [], ◌∷◌, ◌++◌, append-nil, append_assoc}
use mathlib.Core.Option.{none, some}
use Prim.Native.Nat.{ℕ, zero, suc, ◌+◌, ◌-◌, ◌*◌, ◌/◌, ◌%◌, ◌≤◌, ◌<◌, max}
use native.Mathlib.Nat.{le_refl}
use native.Mathlib.Omega.{arith}
use lib.ListN.{length, length-append}
use lib.Dec.{ltb, leb}
use borrow.Author.Tests.{lt-ltb, le-leb, ltb-true, ltb-false, leb-true}
use Rattle.tables.proofs.Tests.{and_intro, and_left, and_right, or_left, or_right}
use Rattle.texts.specs.Text.{decimal}
use Rattle.texts.proofs.Digits.{decimal_one, decimal_more}
use Rattle.pnml_shape.specs.Drawing.{Drawing}
use Rattle.pnml_shape.specs.Machine.{Format, number, digits, digit, begins, possible, step, finish, or_stop, scan, stopped, drawn}

-- ---- tests

-- what is from lo to hi
within : (lo n hi : ℕ) → lo ≤ n → n ≤ hi → (leb lo n && leb n hi) ≡ true
within lo n hi p q = and_intro _ _ (le-leb lo n p) (le-leb n hi q)

-- ---- digits

-- the bytes 48 to 57
pub digit_byte : (k : ℕ) → k < 10 → digit (48 + k) ≡ true
unfolding digit
digit_byte k h = and_intro _ _ (le-leb 48 (48 + k) (omega arith)) (le-leb (48 + k) 57 (omega arith))

pub digit_low : (b : ℕ) → digit b ≡ true → 48 ≤ b
unfolding digit
digit_low b e = leb-true 48 b (and_left _ _ e)

pub digit_high : (b : ℕ) → digit b ≡ true → b ≤ 57
unfolding digit
digit_high b e = leb-true b 57 (and_right (leb 48 b) _ e)

-- ---- cutting off last digits

-- v is n without some of its last digits: v is n / 10^j, and j is 0 where v is 0
pub data Cut (v : ℕ) : ℕ → Type 0 where
  whole : Cut v v
  less : (n : ℕ) → 0 < v → Cut v (n / 10) → Cut v n

-- it is no greater, and 0 only where n is
cut_low : {v n : ℕ} → Cut v n → v ≤ n
cut_low {v} whole = le_refl v
cut_low {v} (less n p c) = let i = cut_low c in omega arith

cut_positive : {v n : ℕ} → Cut v n → 0 < n → 0 < v
cut_positive whole h = h
cut_positive (less n p c) h = p

-- one digit more can be cut off
cut_next : {v : ℕ} (n : ℕ) → 0 < n / 10 → Cut v (n / 10) → Cut v n
cut_next n h c = less n (cut_positive c h) c

-- the digits cut off
unfoldable pub rest : {v n : ℕ} → Cut v n → List ℕ
rest whole = []
rest (less n p c) = rest c ++ ((48 + n % 10) ∷ [])

-- what is left begins the decimal, and they follow
pub rest_decimal : {v n : ℕ} (c : Cut v n) → decimal n ≡ decimal v ++ rest c
unfolding rest
rest_decimal {v} whole = sym (append-nil (decimal v))
rest_decimal {v} (less n p c) =
    let l = cut_low c in
    let last : List ℕ = (48 + n % 10) ∷ [] in
    decimal_more n (omega arith) ∙ (ap (λ r. r ++ last) (rest_decimal c) ∙ append_assoc (decimal v) (rest c) last)

-- all but the first digit can be cut off
leading : (f n : ℕ) → n < f → (v : ℕ) × (v < 10) × Cut v n
leading zero n h = absurd (omega arith)
leading (suc f) n h = by (ltb n 10) refl (λ l. leading f (n / 10) (omega arith))
  where
    by : (b : Bool) → ltb n 10 ≡ b → (10 ≤ n → (v : ℕ) × (v < 10) × Cut v (n / 10)) → (v : ℕ) × (v < 10) × Cut v n
    by true e rest = (n, ltb-true n 10 e, whole)
    by false e rest =
        let l = ltb-false n 10 e in
        let i = rest l in
        (i.0, i.1, cut_next n (omega arith) i.2)

-- ---- possible digit strings

-- what begins a number from lo to hi is possible
begins_on : {v n : ℕ} (f lo hi : ℕ) → hi < f → lo ≤ n → n ≤ hi → Cut v n → begins f v lo hi ≡ true
unfolding begins
begins_on {n = n} zero lo hi h p q c = absurd (omega arith)
begins_on {v} {n = n} (suc f) lo hi h p q whole = or_left (leb lo v && leb v hi) _ (within lo v hi p q)
begins_on {v} {n = m} (suc f) lo hi h p q (less n z c) =
    let l = cut_low c in
    or_right (leb lo v && leb v hi) (ltb 0 v && begins f v (lo / 10) (hi / 10))
    (and_intro (ltb 0 v) (begins f v (lo / 10) (hi / 10)) (lt-ltb 0 v z)
    (begins_on {n = n / 10} f (lo / 10) (hi / 10) (omega arith) (omega arith) (omega arith) c))

pub cut_possible : {v n : ℕ} (lo hi : ℕ) → lo ≤ n → n ≤ hi → Cut v n → possible v lo hi ≡ true
unfolding possible
cut_possible lo hi p q c = begins_on (suc hi) lo hi (le_refl (suc hi)) p q c

-- and what is possible begins one, where lo is not above hi: from 15 to 12 the digit 1 is possible, since 15 / 10 and 12 / 10 are 1
begins_cut : (f v lo hi : ℕ) → lo ≤ hi → begins f v lo hi ≡ true → (n : ℕ) × (lo ≤ n) × (n ≤ hi) × Cut v n
unfolding begins
begins_cut zero v lo hi o e = absurd (false≢true e)
begins_cut (suc f) v lo hi o e = by (leb lo v && leb v hi) refl e (begins_cut f v (lo / 10) (hi / 10) (omega arith))
  where
    by : (b : Bool) → (leb lo v && leb v hi) ≡ b → (b || (ltb 0 v && begins f v (lo / 10) (hi / 10))) ≡ true
        → (begins f v (lo / 10) (hi / 10) ≡ true → (n : ℕ) × (lo / 10 ≤ n) × (n ≤ hi / 10) × Cut v n)
        → (n : ℕ) × (lo ≤ n) × (n ≤ hi) × Cut v n
    by true t e rest = (v, leb-true lo v (and_left (leb lo v) (leb v hi) t), leb-true v hi (and_right (leb lo v) (leb v hi) t), whole)
    by false t e rest =
        let i = rest (and_right (ltb 0 v) (begins f v (lo / 10) (hi / 10)) e) in
        let p = i.1 in
        let q = i.2 in
        let m : ℕ = max lo (10 * i.0) in
        let d : i.0 ≡ m / 10 = omega arith in (
          m,
          omega arith,
          omega arith,
          less m (ltb-true 0 v (and_left (ltb 0 v) (begins f v (lo / 10) (hi / 10)) e)) (subst (λ (k : ℕ). Cut v k) d i.3),
        )

pub possible_cut : (v lo hi : ℕ) → lo ≤ hi → possible v lo hi ≡ true → (n : ℕ) × (lo ≤ n) × (n ≤ hi) × Cut v n
unfolding possible
possible_cut v lo hi o e = begins_cut (suc hi) v lo hi o e

-- ---- one byte of a number

module _ (lo hi : ℕ) (K : ℕ → Format) where
  -- the first digit
  first_digit : (k at : ℕ) (s : List ℕ) → k < 10 → possible k lo hi ≡ true
      → scan (number lo hi K) at ((48 + k) ∷ s) ≡ scan (digits k lo hi K) (at + 1) s
  unfolding scan step or_stop
  first_digit k at s h p = let e : 48 + k - 48 ≡ k = omega arith in simp (e, digit_byte k h, p)

  -- a further digit
  next_digit : (v k at : ℕ) (s : List ℕ) → 0 < v → k < 10 → possible (10 * v + k) lo hi ≡ true
      → scan (digits v lo hi K) at ((48 + k) ∷ s) ≡ scan (digits (10 * v + k) lo hi K) (at + 1) s
  unfolding scan step or_stop
  next_digit v k at s z h p = let e : 48 + k - 48 ≡ k = omega arith in simp (e, digit_byte k h, lt-ltb 0 v z, p)

  -- the byte after it
  last_digit : (v at b : ℕ) (s : List ℕ) → lo ≤ v → v ≤ hi → digit b ≡ false
      → scan (digits v lo hi K) at (b ∷ s) ≡ scan (K v) at (b ∷ s)
  unfolding scan step or_stop
  last_digit v at b s p q h = simp (h, within lo v hi p q)

-- ---- reading a number

-- after v, the digits that were cut off lead to n, where all that n can be cut to is possible
rest_read : {v n : ℕ} (lo hi : ℕ) (K : ℕ → Format) → ((w : ℕ) → Cut w n → possible w lo hi ≡ true) → (c : Cut v n)
    → (at : ℕ) (s : List ℕ) → scan (digits v lo hi K) at (rest c ++ s) ≡ scan (digits n lo hi K) (at + length (rest c)) s
unfolding rest
rest_read {v} lo hi K fits whole at s = let e : at ≡ at + 0 = omega arith in ap (λ k. scan (digits v lo hi K) k s) e
rest_read {v} lo hi K fits (less n z c) at s =
    let l = cut_low c in
    let last : ℕ = 48 + n % 10 in
    let m : 10 * (n / 10) + n % 10 ≡ n = omega arith in
    let e : at + length (rest c) + 1 ≡ at + length (rest c ++ (last ∷ [])) = simp length-append (omega arith) in
    ap (scan (digits v lo hi K) at) (append_assoc (rest c) (last ∷ []) s)
    ∙ (rest_read lo hi K (λ w k. fits w (cut_next n (omega arith) k)) c at (last ∷ s)
    ∙ (next_digit lo hi K (n / 10) (n % 10) (at + length (rest c)) s (omega arith) (omega arith) (rw m (fits n whole))
    ∙ (ap (λ k. scan (digits k lo hi K) (at + length (rest c) + 1) s) m ∙ ap (λ k. scan (digits n lo hi K) k s) e)))

-- so they do where n is from lo to hi, and then the number ends before a byte that is no digit
rest_on : {v n : ℕ} (lo hi : ℕ) (K : ℕ → Format) (at b : ℕ) (s : List ℕ) → lo ≤ n → n ≤ hi → digit b ≡ false → (c : Cut v n)
    → scan (digits v lo hi K) at (rest c ++ (b ∷ s)) ≡ scan (K n) (at + length (rest c)) (b ∷ s)
rest_on {v} {n} lo hi K at b s p q h c =
    rest_read lo hi K (λ w k. cut_possible lo hi p q k) c at (b ∷ s) ∙ last_digit lo hi K n (at + length (rest c)) b s p q h

-- a decimal from lo to hi is read
pub number_on : (lo hi n : ℕ) (K : ℕ → Format) (at b : ℕ) (s : List ℕ) → lo ≤ n → n ≤ hi → digit b ≡ false
    → scan (number lo hi K) at (decimal n ++ (b ∷ s)) ≡ scan (K n) (at + length (decimal n)) (b ∷ s)
number_on lo hi n K at b s p q h =
    let i = leading (suc n) n (le_refl (suc n)) in
    let v : ℕ = i.0 in
    let c : Cut v n = i.2 in
    let e : decimal n ≡ (48 + v) ∷ rest c = rest_decimal c ∙ ap (λ r. r ++ rest c) (decimal_one v i.1) in
    let k : at + 1 + length (rest c) ≡ at + length (decimal n) = omega (arith, ap length e) in
    ap (λ r. scan (number lo hi K) at (r ++ (b ∷ s))) e
    ∙ (first_digit lo hi K v at (rest c ++ (b ∷ s)) i.1 (cut_possible lo hi p q c)
    ∙ (rest_on lo hi K (at + 1) b s p q h c ∙ ap (λ j. scan (K n) j (b ∷ s)) k))

-- possible digits can be continued to a number from lo to hi
pub digits_on : (v lo hi : ℕ) (K : ℕ → Format) → lo ≤ hi → possible v lo hi ≡ true
    → (n : ℕ) × (lo ≤ n) × (n ≤ hi) × ((ds : List ℕ) × ((at b : ℕ) (s : List ℕ) → digit b ≡ false
    → scan (digits v lo hi K) at (ds ++ (b ∷ s)) ≡ scan (K n) (at + length ds) (b ∷ s)))
digits_on v lo hi K o e =
    let i = possible_cut v lo hi o e in
    (i.0, i.1, i.2, (rest i.3, λ at b s h. rest_on lo hi K at b s i.1 i.2 h i.3))

-- and where lo is not above hi there is one to read
pub number_viable : (lo hi : ℕ) (K : ℕ → Format) → lo ≤ hi
    → (ds : List ℕ) × ((at b : ℕ) (s : List ℕ) → digit b ≡ false
    → scan (number lo hi K) at (ds ++ (b ∷ s)) ≡ scan (K lo) (at + length ds) (b ∷ s))
number_viable lo hi K o = (decimal lo, λ at b s h. number_on lo hi lo K at b s (le_refl lo) o h)

-- ---- a number that was read

-- a stopped scan draws nothing
never_drawn {ℓ} : {A : Type ℓ} (at : ℕ) (d : Drawing) → stopped at ≡ drawn d → A
never_drawn at d e = let z : ◌≡◌ {A = ℕ} 0 1 = cc in absurd (omega arith)

-- a digit is a decimal, and a decimal grows by a digit
pub decimal_byte : (b : ℕ) → digit b ≡ true → decimal (b - 48) ≡ b ∷ []
decimal_byte b h =
    let l = digit_low b h in
    let u = digit_high b h in
    let e : 48 + (b - 48) ≡ b = omega arith in
    decimal_one (b - 48) (omega arith) ∙ ap (λ k. k ∷ []) e

pub decimal_next : (v b : ℕ) → 0 < v → digit b ≡ true → decimal (10 * v + (b - 48)) ≡ decimal v ++ (b ∷ [])
decimal_next v b z h =
    let l = digit_low b h in
    let u = digit_high b h in
    let n : ℕ = 10 * v + (b - 48) in
    let q : n / 10 ≡ v = omega arith in
    let r : 48 + n % 10 ≡ b = omega arith in
    decimal_more n (omega arith) ∙ (ap (λ k. decimal k ++ ((48 + n % 10) ∷ [])) q ∙ ap (λ k. decimal v ++ (k ∷ [])) r)

-- after v: further digits of a number from lo to hi, and what is left of the text draws d
pub record Took (v lo hi : ℕ) (K : ℕ → Format) (at : ℕ) (s : List ℕ) (d : Drawing) : Type 0 where
  pub value : ℕ
  pub taken : List ℕ
  pub left : List ℕ
  pub low : lo ≤ value
  pub high : value ≤ hi
  pub text : s ≡ taken ++ left
  pub begun : decimal value ≡ decimal v ++ taken
  pub goes : scan (K value) (at + length taken) left ≡ drawn d

-- one digit more, and the end of the number
took_digit : (v lo hi : ℕ) (K : ℕ → Format) (at b : ℕ) (s : List ℕ) (d : Drawing) → 0 < v → digit b ≡ true
    → Took (10 * v + (b - 48)) lo hi K (at + 1) s d → Took v lo hi K at (b ∷ s) d
took_digit v lo hi K at b s d z h i =
    let e : at + 1 + length i.taken ≡ at + suc (length i.taken) = omega arith in
    record {
      value = i.value;
      taken = b ∷ i.taken;
      left = i.left;
      low = i.low;
      high = i.high;
      text = ap (λ l. b ∷ l) i.text;
      begun = i.begun ∙ (ap (λ l. l ++ i.taken) (decimal_next v b z h) ∙ append_assoc (decimal v) (b ∷ []) i.taken);
      goes = subst (λ (k : ℕ). scan (K i.value) k i.left ≡ drawn d) e i.goes;
    }

took_none : (v lo hi : ℕ) (K : ℕ → Format) (at : ℕ) (s : List ℕ) (d : Drawing) → lo ≤ v → v ≤ hi → scan (K v) at s ≡ drawn d
    → Took v lo hi K at s d
took_none v lo hi K at s d p q h =
    let e : at ≡ at + 0 = omega arith in
    record {
      value = v;
      taken = [];
      left = s;
      low = p;
      high = q;
      text = refl;
      begun = sym (append-nil (decimal v));
      goes = subst (λ (k : ℕ). scan (K v) k s ≡ drawn d) e h;
    }

-- what is read after v, and what is read as a number
pub digits_drawn : (v lo hi : ℕ) (K : ℕ → Format) (at : ℕ) (s : List ℕ) (d : Drawing)
    → scan (digits v lo hi K) at s ≡ drawn d → Took v lo hi K at s d
unfolding scan step or_stop finish
digits_drawn v lo hi K at [] d h = never_drawn at d h
digits_drawn v lo hi K at (b ∷ s) d h =
    by (digit b) refl (ltb 0 v && possible (10 * v + (b - 48)) lo hi) refl (leb lo v && leb v hi) refl h
    (digits_drawn (10 * v + (b - 48)) lo hi K (at + 1) s d)
  where
    by : (x : Bool) → digit b ≡ x → (y : Bool) → (ltb 0 v && possible (10 * v + (b - 48)) lo hi) ≡ y
        → (z : Bool) → (leb lo v && leb v hi) ≡ z
        → or_stop (cond x (cond y (some (digits (10 * v + (b - 48)) lo hi K)) none) (cond z (step (K v) b) none)) at (λ G. scan G (at + 1) s)
        ≡ drawn d
        → (scan (digits (10 * v + (b - 48)) lo hi K) (at + 1) s ≡ drawn d → Took (10 * v + (b - 48)) lo hi K (at + 1) s d)
        → Took v lo hi K at (b ∷ s) d
    by true e true f z g h next =
        took_digit v lo hi K at b s d (ltb-true 0 v (and_left (ltb 0 v) (possible (10 * v + (b - 48)) lo hi) f)) e (next h)
    by true e false f z g h next = never_drawn at d h
    by false e y f true g h next =
        took_none v lo hi K at (b ∷ s) d (leb-true lo v (and_left (leb lo v) (leb v hi) g)) (leb-true v hi (and_right (leb lo v) (leb v hi) g)) h
    by false e y f false g h next = never_drawn at d h

pub number_drawn : (lo hi : ℕ) (K : ℕ → Format) (at : ℕ) (s : List ℕ) (d : Drawing) → scan (number lo hi K) at s ≡ drawn d
    → (n : ℕ) × (r : List ℕ) × (lo ≤ n) × (n ≤ hi) × (s ≡ decimal n ++ r) × (scan (K n) (at + length (decimal n)) r ≡ drawn d)
unfolding scan step or_stop finish
number_drawn lo hi K at [] d h = never_drawn at d h
number_drawn lo hi K at (b ∷ s) d h = by (digit b && possible (b - 48) lo hi) refl h
  where
    by : (x : Bool) → (digit b && possible (b - 48) lo hi) ≡ x
        → or_stop (cond x (some (digits (b - 48) lo hi K)) none) at (λ G. scan G (at + 1) s) ≡ drawn d
        → (n : ℕ) × (r : List ℕ) × (lo ≤ n) × (n ≤ hi) × (b ∷ s ≡ decimal n ++ r) × (scan (K n) (at + length (decimal n)) r ≡ drawn d)
    by true e h =
        let g = and_left (digit b) (possible (b - 48) lo hi) e in
        let i = digits_drawn (b - 48) lo hi K (at + 1) s d h in
        let f : decimal i.value ≡ b ∷ i.taken = i.begun ∙ ap (λ l. l ++ i.taken) (decimal_byte b g) in
        let k : at + 1 + length i.taken ≡ at + length (decimal i.value) = omega (arith, ap length f) in (
          i.value,
          i.left,
          i.low,
          i.high,
          ap (λ l. b ∷ l) i.text ∙ ap (λ l. l ++ i.left) (sym f),
          subst (λ (j : ℕ). scan (K i.value) j i.left ≡ drawn d) k i.goes,
        )
    by false e h = never_drawn at d h
