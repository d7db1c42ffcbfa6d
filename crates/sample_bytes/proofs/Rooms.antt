-- What a room holds, byte by byte. Assumes nothing.
use Rattle.std.proofs.Common.{ℕ, zero, suc, ◌+◌, ◌*◌, ◌%◌, ◌≤◌, ◌<◌, ◌≡◌, refl, Option, Some, None, MatchOption, Bool, true, false, List, [], ◌∷◌, length, drop, get_or, leb, arith, add-one, drop_of_length-le, drop-cons, min}
use Rattle.std.specs.Option.{unwrap_or}
use borrow.Author.Tests.{eq-eqb, ne_eqb, leb-true, leb-false}
use Rattle.sample_bytes.specs.Rooms.{count, alike, checksum}

-- ---- count

pub counted : (b : ℕ) (l : List ℕ) (i n : ℕ) → n ≡ count b l i → get_or l i 0 ≡ b → n + 1 ≡ count b l (i + 1)
unfolding count
counted b l i n e h = let t = eq-eqb (get_or l i 0) b h in rw (add-one i, t, e)

pub passed : (b : ℕ) (l : List ℕ) (i n : ℕ) → n ≡ count b l i → (get_or l i 0 ≡ b → ⊥) → n ≡ count b l (i + 1)
unfolding count
passed b l i n e h = let t = ne_eqb (get_or l i 0) b h in rw (add-one i, t, e)

-- ---- alike

pub alike_more : (a b : List ℕ) (i : ℕ) → i < length a → i < length b → get_or a i 0 ≡ get_or b i 0
    → alike (drop i a) (drop i b) ≡ suc (alike (drop (i + 1) a) (drop (i + 1) b))
unfolding alike
alike_more a b i ha hb e =
    let t = eq-eqb (get_or a i 0) (get_or b i 0) e in
    let x = drop-cons a i 0 ha in
    let y = drop-cons b i 0 hb in
    simp (x, y, t, add-one)

pub alike_stop : (a b : List ℕ) (i : ℕ) → i < length a → i < length b → (get_or a i 0 ≡ get_or b i 0 → ⊥) → alike (drop i a) (drop i b) ≡ 0
unfolding alike
alike_stop a b i ha hb e =
    let t = ne_eqb (get_or a i 0) (get_or b i 0) e in
    let x = drop-cons a i 0 ha in
    let y = drop-cons b i 0 hb in
    simp (x, y, t)

alike_none : (l : List ℕ) → alike l [] ≡ 0
unfolding alike
alike_none [] = refl
alike_none (a ∷ l) = refl

pub alike_end : (a b : List ℕ) (i : ℕ) → min (length a) (length b) ≤ i → alike (drop i a) (drop i b) ≡ 0
unfolding alike
alike_end a b i h = by (leb (length b) i) refl
  where
    by : (t : Bool) → leb (length b) i ≡ t → alike (drop i a) (drop i b) ≡ 0
    by true e = let d = drop_of_length-le b {i = i} (leb-true (length b) i e) in rw d (alike_none (drop i a))
    by false e = let f = leb-false (length b) i e in let d = drop_of_length-le a {i = i} (omega arith) in rw d

-- the first i are the same

pub same_to : (a b : List ℕ) (i : ℕ) → i ≤ min (length a) (length b) → ((k : ℕ) → k < i → get_or a k 0 ≡ get_or b k 0)
    → alike a b ≡ i + alike (drop i a) (drop i b)
same_to a b zero h f = omega arith
same_to a b (suc i) h f =
    let m = alike_more a b i (omega arith) (omega arith) (f i (omega arith)) in
    let p = same_to a b i (omega arith) (λ k l. f k (omega arith)) in
    let q = rw add-one at m in
    omega (arith, p, q)

-- what a search for the first that differs answers

pub alike_by : (a b : List ℕ) (n : ℕ) (r : Option ℕ) → n ≡ min (length a) (length b)
    → MatchOption r ((k : ℕ) → 0 ≤ k → k < n → get_or a k 0 ≡ get_or b k 0)
    (λ i. (0 ≤ i) × (i < n) × (get_or a i 0 ≡ get_or b i 0 → ⊥) × ((k : ℕ) → 0 ≤ k → k < i → get_or a k 0 ≡ get_or b k 0))
    → unwrap_or r n ≡ alike a b
alike_by a b n None e h =
    let p = same_to a b n (omega (arith, e)) (λ k l. h k (omega arith) l) in
    let m = alike_end a b n (omega (arith, e)) in
    omega (arith, p, m)
alike_by a b n (Some i) e h =
    let p = same_to a b i (omega (arith, e, h.1)) (λ k l. h.3 k (omega arith) l) in
    let m = alike_stop a b i (omega (arith, e, h.1)) (omega (arith, e, h.1)) h.2 in
    omega (arith, p, m)

-- ---- all of it

pub summed : (l : List ℕ) (i n : ℕ) → n ≡ checksum l i → (n * 257 + get_or l i 0) % 1000003 ≡ checksum l (i + 1)
unfolding checksum
summed l i n e = rw (add-one i, e)
