-- Numbers between two bounds, digit by digit: which digits can follow, and what the scan does with each. For any bounds and text.
-- Assumes nothing.
use mathlib.Core.Path.{◌≡◌, refl, sym, ap, ◌∙◌, subst}
use mathlib.Core.Bool.{Bool, true, false, cond, and-false}
use mathlib.Core.List.{List, ◌∷◌, ◌++◌}
use mathlib.Core.Option.{none, some}
use Prim.Native.Nat.{ℕ, zero, suc, ◌+◌, ◌-◌, ◌*◌, ◌/◌, ◌≤◌, ◌<◌}
use native.Mathlib.Nat.{div-lt_self, div-le_self, div-lt_iff_lt-mul}
use native.Mathlib.Numerals.{add-one}
use native.Mathlib.Omega.{arith}
use lib.Seq.{drop-cons}
use lib.ListN.{length, drop, get_or}
use lib.Dec.{leb, ltb}
use borrow.Author.Tests.{lt-ltb, le-ltb, ltb-true, ltb-false, le-leb, lt-leb, leb-true, leb-false}
use Rattle.pnml_shape.specs.Machine.{Format, number, digits, digit, begins, possible, step, stopped, finish, scan}
use Rattle.texts.specs.Text.{decimal}
use Rattle.pnml_shape.proofs.Numbers.{number_on}
use Rattle.pnml_quick.specs.Serving.{Read}
use Rattle.std.specs.Prelude.{Result, Ok, Err, None}
use Rattle.pnml_quick.specs.declared.Number.{Number}
use Rattle.pnml_scan.specs.declared.Left.{Left}
use Rattle.pnml_scan.specs.Serving.{Value, Reading, Rest, ended, DigitIs, DigitAt}
use Rattle.pnml_scan.proofs.Scan.{taken, refused, at_end, alike}

-- ---- which digits can follow

-- one turn of the search
begins_within : (f v lo hi : ℕ) → lo ≤ v → v ≤ hi → begins (suc f) v lo hi ≡ true
unfolding begins
begins_within f v lo hi p q = simp (le-leb lo v p, le-leb v hi q)

begins_low : (f v lo hi : ℕ) → v < lo → 0 < v → begins (suc f) v lo hi ≡ begins f v (lo / 10) (hi / 10)
unfolding begins
begins_low f v lo hi p q = simp (lt-leb lo v p, lt-ltb 0 v q)

begins_zero : (f v lo hi : ℕ) → v < lo → v ≡ 0 → begins (suc f) v lo hi ≡ false
unfolding begins
begins_zero f v lo hi p q = simp (lt-leb lo v p, le-ltb 0 v (omega arith))

begins_high : (f v lo hi : ℕ) → hi < v → begins f v lo hi ≡ false
unfolding begins
begins_high zero v lo hi p = refl
begins_high (suc f) v lo hi p =
    let q = div-le_self hi 10 in
    simp (lt-leb v hi p, and-false, begins_high f v (lo / 10) (hi / 10) (omega arith))

-- what can follow is at most the highest
pub possible_most : (v lo hi : ℕ) → possible v lo hi ≡ true → v ≤ hi
unfolding possible
possible_most v lo hi e = by (ltb hi v) refl
  where
    by : (b : Bool) → ltb hi v ≡ b → v ≤ hi
    by true q =
        let z : true ≡ false = sym e ∙ begins_high (suc hi) v lo hi (ltb-true hi v q) in
        let n : ◌≡◌ {A = ℕ} 0 1 = cc in omega arith
    by false q = ltb-false hi v q

-- a digit that takes the number above the highest
pub above_digit : (v d lo hi : ℕ) → hi < d → false ≡ possible (10 * v + d) lo hi
unfolding possible
above_digit v d lo hi h = sym (begins_high (suc hi) (10 * v + d) lo hi (omega arith))

pub above_digits : (v d lo hi : ℕ) → (hi - d) / 10 < v → false ≡ possible (10 * v + d) lo hi
unfolding possible
above_digits v d lo hi h =
    let l = (div-lt_iff_lt-mul {k = 10} {x = hi - d} {y = v} (omega arith)).0 h in
    sym (begins_high (suc hi) (10 * v + d) lo hi (omega arith))

-- the bounds divided so far
pub record Looked (v lo₀ hi₀ lo hi : ℕ) : Type 0 where
  pub fuel : ℕ
  pub enough : hi < suc fuel
  pub same : begins (suc fuel) v lo hi ≡ possible v lo₀ hi₀

pub looked_none : (v lo hi : ℕ) → Looked v lo hi lo hi
unfolding possible
looked_none v lo hi = record { fuel = hi; enough = omega arith; same = refl }

pub looked_within : (v lo₀ hi₀ lo hi : ℕ) → Looked v lo₀ hi₀ lo hi → lo ≤ v → v ≤ hi → true ≡ possible v lo₀ hi₀
looked_within v lo₀ hi₀ lo hi l p q = sym (begins_within l.fuel v lo hi p q) ∙ l.same

pub looked_zero : (v lo₀ hi₀ lo hi : ℕ) → Looked v lo₀ hi₀ lo hi → v < lo → v ≡ 0 → false ≡ possible v lo₀ hi₀
looked_zero v lo₀ hi₀ lo hi l p q = sym (begins_zero l.fuel v lo hi p q) ∙ l.same

pub looked_high : (v lo₀ hi₀ lo hi : ℕ) → Looked v lo₀ hi₀ lo hi → hi < v → false ≡ possible v lo₀ hi₀
looked_high v lo₀ hi₀ lo hi l p = sym (begins_high (suc l.fuel) v lo hi p) ∙ l.same

-- one digit of the bounds less
pub looked_more : (v lo₀ hi₀ lo hi : ℕ) → Looked v lo₀ hi₀ lo hi → v < lo → (v ≡ 0 → ⊥) → v ≤ hi → Looked v lo₀ hi₀ (lo / 10) (hi / 10)
looked_more v lo₀ hi₀ lo hi l p q r = by l.fuel l.enough l.same
  where
    by : (f : ℕ) → hi < suc f → begins (suc f) v lo hi ≡ possible v lo₀ hi₀ → Looked v lo₀ hi₀ (lo / 10) (hi / 10)
    by zero e s = absurd (q (omega arith))
    by (suc f) e s =
        let n : 0 < v = omega arith in
        let d : hi / 10 < hi = div-lt_self (omega arith) (omega arith) in
        record { fuel = f; enough = omega arith; same = sym (begins_low (suc f) v lo hi p n) ∙ s }

-- ---- one byte

digit_yes : (b r : ℕ) → r < 10 → b ≡ 48 + r → digit b ≡ true
unfolding digit
digit_yes b r h e = simp (le-leb 48 b (omega arith), le-leb b 57 (omega arith))

digit_value : (b r : ℕ) → b ≡ 48 + r → b - 48 ≡ r
digit_value b r e = omega arith

-- a byte below or above the digits is none
pub digit_low : (b : ℕ) → b < 48 → digit b ≡ false
unfolding digit
digit_low b h = simp (lt-leb 48 b h)

pub digit_high : (b : ℕ) → 57 < b → digit b ≡ false
unfolding digit
digit_high b h = simp (lt-leb b 57 h, and-false)

module _ (lo hi : ℕ) (K : ℕ → Format) where
  -- the first digit
  first_taken : (b r : ℕ) → r < 10 → b ≡ 48 + r → possible r lo hi ≡ true → step (number lo hi K) b ≡ some (digits r lo hi K)
  unfolding step
  first_taken b r h e p = simp (digit_yes b r h e, digit_value b r e, p)

  first_hopeless : (b r : ℕ) → r < 10 → b ≡ 48 + r → possible r lo hi ≡ false → step (number lo hi K) b ≡ none
  unfolding step
  first_hopeless b r h e p = simp (digit_yes b r h e, digit_value b r e, p)

  first_other : (b : ℕ) → digit b ≡ false → step (number lo hi K) b ≡ none
  unfolding step
  first_other b d = simp d

  -- a further digit
  more_taken : (v b r : ℕ) → r < 10 → b ≡ 48 + r → 0 < v → possible (10 * v + r) lo hi ≡ true
      → step (digits v lo hi K) b ≡ some (digits (10 * v + r) lo hi K)
  unfolding step
  more_taken v b r h e n p = simp (digit_yes b r h e, digit_value b r e, lt-ltb 0 v n, p)

  more_hopeless : (v b r : ℕ) → r < 10 → b ≡ 48 + r → possible (10 * v + r) lo hi ≡ false → step (digits v lo hi K) b ≡ none
  unfolding step
  more_hopeless v b r h e p = simp (digit_yes b r h e, digit_value b r e, p, and-false)

  more_zero : (v b r : ℕ) → r < 10 → b ≡ 48 + r → v ≡ 0 → step (digits v lo hi K) b ≡ none
  unfolding step
  more_zero v b r h e z = simp (digit_yes b r h e, le-ltb 0 v (omega arith))

  -- no further digit
  over_within : (v b : ℕ) → digit b ≡ false → lo ≤ v → v ≤ hi → step (digits v lo hi K) b ≡ step (K v) b
  unfolding step
  over_within v b d p q = simp (d, le-leb lo v p, le-leb v hi q)

  over_low : (v b : ℕ) → digit b ≡ false → v < lo → step (digits v lo hi K) b ≡ none
  unfolding step
  over_low v b d p = simp (d, lt-leb lo v p)

-- ---- a number in a text

-- a text that has no digit at an offset, or ends there, stops where the format takes nothing else
stops : (t : List ℕ) (k : ℕ) (F : Format) → ((b : ℕ) → digit b ≡ false → step F b ≡ none) → finish F k ≡ stopped k → DigitAt t k None
    → scan F k (drop k t) ≡ stopped k
stops t k F p q d = by (ltb k (length t)) refl
  where
    by : (b : Bool) → ltb k (length t) ≡ b → scan F k (drop k t) ≡ stopped k
    by true e = let h = ltb-true k (length t) e in refused t k F h (p (get_or t k 0) (d h))
    by false e = at_end t k F (ltb-false k (length t) e) ∙ q

-- the digits up to an offset make v
pub record Made (t : List ℕ) (at n lo hi k v : ℕ) : Type 0 where
  pub inside : k ≤ length t
  pub from : at ≤ k
  pub most : v ≤ hi
  pub same : (K : ℕ → Format) → scan (digits n lo hi K) at (drop at t) ≡ scan (digits v lo hi K) k (drop k t)

pub made_none : (t : List ℕ) (at n lo hi : ℕ) → Reading t at n hi → Made t at n lo hi at n
made_none t at n lo hi r = record { inside = r.inside; from = omega arith; most = r.most; same = λ K. refl }

module _ (t : List ℕ) (at n lo hi k v r : ℕ) (m : Made t at n lo hi k v) (d : DigitIs t k r) where
  -- one digit more
  pub made_more : (v ≡ 0 → ⊥) → possible (10 * v + r) lo hi ≡ true → Made t at n lo hi (k + 1) (10 * v + r)
  made_more z p =
      record {
        inside = omega (arith, d.inside);
        from = omega (arith, m.from);
        most = possible_most (10 * v + r) lo hi p;
        same = λ K.
            m.same K
            ∙ taken t k (digits v lo hi K) (digits (10 * v + r) lo hi K) d.inside
            (more_taken lo hi K v (get_or t k 0) r d.most d.read (omega arith) p);
      }

  -- a digit after 0, and one with which no number begins
  pub made_zero : v ≡ 0 → Rest t at n lo hi (Err (record { at = k }))
  made_zero z =
      record {
        inside = m.inside;
        from = m.from;
        most = tt;
        least = tt;
        same = λ K f. m.same K ∙ refused t k (digits v lo hi K) d.inside (more_zero lo hi K v (get_or t k 0) r d.most d.read z);
      }

  pub made_hopeless : possible (10 * v + r) lo hi ≡ false → Rest t at n lo hi (Err (record { at = k }))
  made_hopeless p =
      record {
        inside = m.inside;
        from = m.from;
        most = tt;
        least = tt;
        same = λ K f. m.same K ∙ refused t k (digits v lo hi K) d.inside (more_hopeless lo hi K v (get_or t k 0) r d.most d.read p);
      }

-- no digit more
pub made_over : (t : List ℕ) (at n lo hi k v : ℕ) → Made t at n lo hi k v → DigitAt t k None → (r : Result Number Left) → r ≡ ended v lo k
    → Rest t at n lo hi r
unfolding ended finish
made_over t at n lo hi k v m d r e = subst (λ (x : Result Number Left). Rest t at n lo hi x) (sym e) (by (leb lo v) refl)
  where
    by : (b : Bool) → leb lo v ≡ b → Rest t at n lo hi (cond b (Ok (record { at = k; value = v })) (Err (record { at = k })))
    by true e =
        record {
          inside = m.inside;
          from = m.from;
          most = m.most;
          least = leb-true lo v e;
          same = λ K f.
              m.same K
              ∙ alike t k (digits v lo hi K) (K v)
              (λ h. over_within lo hi K v (get_or t k 0) (d h) (leb-true lo v e) m.most)
              (λ h. sym (f v k));
        }
    by false e =
        record {
          inside = m.inside;
          from = m.from;
          most = tt;
          least = tt;
          same = λ K f. m.same K ∙ stops t k (digits v lo hi K) (λ b q. over_low lo hi K v b q (leb-false lo v e)) refl d;
        }

pub made_end : (t : List ℕ) (at n lo hi k v : ℕ) → Made t at n lo hi k v → length t ≤ k → (r : Result Number Left) → r ≡ ended v lo (length t)
    → Rest t at n lo hi r
made_end t at n lo hi k v m h r e =
    let z : k ≡ length t = omega (arith, m.inside) in
    made_over t at n lo hi k v m (λ l. absurd (omega arith)) r (e ∙ ap (λ (i : ℕ). ended v lo i) (sym z))

-- the first digit and the rest
module _ (t : List ℕ) (at lo hi d : ℕ) (g : DigitIs t at d) where
  pub value_reading : possible d lo hi ≡ true → Reading t (at + 1) d hi
  value_reading p = record { inside = omega (arith, g.inside); most = possible_most d lo hi p }

  pub value_of : possible d lo hi ≡ true → {r : Result Number Left} → Rest t (at + 1) d lo hi r → Value t at lo hi r
  value_of p x =
      record {
        inside = x.inside;
        from = omega (arith, x.from);
        most = x.most;
        least = x.least;
        same = λ K f.
            taken t at (number lo hi K) (digits d lo hi K) g.inside (first_taken lo hi K (get_or t at 0) d g.most g.read p) ∙ x.same K f;
      }

  pub value_hopeless : possible d lo hi ≡ false → Value t at lo hi (Err (record { at = at }))
  value_hopeless p =
      record {
        inside = omega (arith, g.inside);
        from = omega arith;
        most = tt;
        least = tt;
        same = λ K f. refused t at (number lo hi K) g.inside (first_hopeless lo hi K (get_or t at 0) d g.most g.read p);
      }

pub value_none : (t : List ℕ) (at lo hi : ℕ) → at ≤ length t → DigitAt t at None → Value t at lo hi (Err (record { at = at }))
unfolding finish
value_none t at lo hi i d =
    record {
      inside = i;
      from = omega arith;
      most = tt;
      least = tt;
      same = λ K f. stops t at (number lo hi K) (first_other lo hi K) refl d;
    }

-- a number that was read whole
pub value_whole : (t : List ℕ) (at lo hi : ℕ) (n : Number) → Read t at lo hi n.at n.value → Value t at lo hi (Ok n)
value_whole t at lo hi n r =
    let s = r.begun in
    let k : ℕ = n.at in
    let v : ℕ = n.value in
    let d : drop k t ≡ get_or t k 0 ∷ drop (k + 1) t =
    drop-cons t k 0 r.follows ∙ ap (λ (i : ℕ). get_or t k 0 ∷ drop i t) (sym (add-one k)) in
    record {
      inside = s.inside;
      from = omega (arith, s.size);
      most = r.high;
      least = r.low;
      same = λ K f.
          ap (λ (l : List ℕ). scan (number lo hi K) at l) (s.text ∙ ap (λ (l : List ℕ). decimal v ++ l) d)
          ∙ number_on lo hi v K at (get_or t k 0) (drop (k + 1) t) r.low r.high r.over
          ∙ ap (λ (i : ℕ). scan (K v) i (get_or t k 0 ∷ drop (k + 1) t)) (sym s.size)
          ∙ ap (λ (l : List ℕ). scan (K v) k l) (sym d);
    }

-- ---- the end of a number

pub ended_there : (v lo at : ℕ) → lo ≤ v → Ok (record { at = at; value = v }) ≡ ended v lo at
unfolding ended
ended_there v lo at h = sym (ap (λ (b : Bool). cond b (Ok (record { at = at; value = v })) (Err (record { at = at }))) (le-leb lo v h))

pub ended_low : (v lo at : ℕ) → v < lo → Err (record { at = at }) ≡ ended v lo at
unfolding ended
ended_low v lo at h = sym (ap (λ (b : Bool). cond b (Ok (record { at = at; value = v })) (Err (record { at = at }))) (lt-leb lo v h))
