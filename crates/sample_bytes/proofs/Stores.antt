-- Stores one after the other, as far as the list goes. Assumes nothing.
use Rattle.std.proofs.Common.{ℕ, zero, suc, ◌+◌, ◌-◌, ◌/◌, ◌%◌, ◌≤◌, ◌<◌, ◌≡◌, refl, sym, Bool, true, false, List, [], ◌∷◌, length, take, set, leb, arith, add-one, length-set, append_assoc, min}
use Rattle.std.proofs.Math.Seq.{set_out, take-length}
use Rattle.std.proofs.lemmas.List.Edits.{sets, sets-eq}
use Rattle.std.proofs.lemmas.List.{length-take-le}
use borrow.Rule.Slice.PartMut.{put_mid, Post-is}
use borrow.Author.Tests.{leb-true, leb-false}
use Rattle.sample_bytes.specs.Bytes.{bytes}

-- nothing is stored past the end
past : (l vs : List ℕ) (k : ℕ) → length l ≤ k → sets l k vs ≡ l
past l [] k h = refl
past l (a ∷ vs) k h = let e = set_out l k a h in rw e (past l vs (suc k) (omega arith))

-- ---- a number

-- the next byte of a number, and then the others
pub next_digit : (l : List ℕ) (k left n : ℕ) → 0 < left
    → sets (set l k (n % 256)) (k + 1) (bytes (left - 1) (n / 256)) ≡ sets l k (bytes left n)
unfolding bytes
next_digit l k zero n h = absurd (omega arith)
next_digit l k (suc left) n h = let d : suc left - 1 ≡ left = omega arith in rw (d, add-one)

-- none is left, or the table ends
pub no_digit : (l : List ℕ) (k left n : ℕ) → min (k + left) (length l) ≤ k → sets l k (bytes left n) ≡ l
unfolding bytes
no_digit l k zero n h = refl
no_digit l k (suc left) n h = past l (bytes (suc left) n) k (omega arith)

-- ---- some bytes

-- those past the end may be left off
cut : (l part : List ℕ) (k n : ℕ) → length l ≤ k + n → sets l k (take n part) ≡ sets l k part
cut l part k zero h = sym (past l part k (omega arith))
cut l [] k (suc n) h = refl
cut l (a ∷ part) k (suc n) h = cut (set l k a) part (suc k) n (omega (arith, length-set l k a))

-- the first bytes, as many as have room, stored from a place in the list on
fitting : (l part : List ℕ) (at from size : ℕ) → from ≡ min at (length l) → size ≡ min (length part) (length l - from)
    → sets l from (take size part) ≡ sets l at part
fitting l part at from size f s = by (leb at (length l)) refl
  where
    short : (t : Bool) → leb (length part) size ≡ t → sets l at (take size part) ≡ sets l at part
    short true e = let d : size ≡ length part = let p = leb-true (length part) size e in omega arith in rw (d, take-length part)
    short false e = let p = leb-false (length part) size e in cut l part at size (omega arith)

    by : (t : Bool) → leb at (length l) ≡ t → sets l from (take size part) ≡ sets l at part
    by true e = let p = leb-true at (length l) e in let d : from ≡ at = omega arith in rw d (short (leb (length part) size) refl)
    by false e = let p = leb-false at (length l) e in let d : size ≡ 0 = omega arith in rw d (sym (past l part at (omega arith)))

pub copied : (l part : List ℕ) (at from size : ℕ) → from ≡ min at (length l) → size ≡ min (length part) (length l - from)
    → put_mid from (from + size - from) l (take size part) ≡ sets l at part
copied l part at from size f s =
    let n : length (take size part) ≡ size = length-take-le size part (omega arith) in
    let e = sets-eq (take size part) l from (omega (arith, n)) in
    let p = Post-is from (from + size) l (omega arith) in
    rw (p, ← (fitting l part at from size f s), e, n, append_assoc)
