-- What the count of a table's records says of its length. Assumes nothing.
use mathlib.Core.Path.{◌≡◌, refl, sym, ap}
use mathlib.Core.Bool.{Bool, true, false, cond, ◌&&◌}
use Prim.Native.Nat.{ℕ, ◌+◌, ◌*◌, ◌/◌, ◌%◌, ◌≤◌, ◌<◌}
use native.Mathlib.Nat.{div-mul-le_self, le_trans, le_of_eq, suc-mul, mul-le-mul_right}
use native.Mathlib.Omega.{arith}
use lib.Dec.{eqb, leb}
use borrow.Author.Tests.{leb-true}
use Rattle.std.proofs.Common.{Some, None}
use Rattle.tables.specs.Sizes.{sized, records_of}

-- what the test of a length says where it is passed
and_first : (a b : Bool) → (a && b) ≡ true → b ≡ true
and_first true b e = e
and_first false b e = absurd (let z : ◌≡◌ {A = ℕ} 0 1 = ap (λ t. cond t 1 0) e in omega arith)

pub sized_most : (size least most len : ℕ) → sized size least most len ≡ true → len / size ≤ most
unfolding sized
sized_most size least most len h = leb-true (len / size) most (and_first (eqb (len % size) 0 && leb least (len / size)) (leb (len / size) most) h)

-- the length's test, and what follows from it
pub sized_whole : (size least most len : ℕ) → sized size least most len ≡ true → Some (len / size) ≡ records_of size least most len
unfolding records_of
sized_whole size least most len h = sym (ap (λ b. cond b (Some (len / size)) None) h)

pub unsized_refused : (size least most len : ℕ) → sized size least most len ≡ false → None ≡ records_of size least most len
unfolding records_of
unsized_refused size least most len h = sym (ap (λ b. cond b (Some (len / size)) None) h)

-- a count that was given, and one that was refused
module _ (size least most len : ℕ) where
  pub whole_sized : (n : ℕ) → records_of size least most len ≡ Some n → sized size least most len ≡ true
  unfolding records_of
  whole_sized n e = by (sized size least most len) e
    where
      by : (b : Bool) → cond b (Some (len / size)) None ≡ Some n → b ≡ true
      by true e = refl
      by false e = let z : ◌≡◌ {A = ℕ} 0 1 = cc in absurd (omega arith)

  pub whole_count : (n : ℕ) → records_of size least most len ≡ Some n → n ≡ len / size
  unfolding records_of
  whole_count n e = by (sized size least most len) e
    where
      by : (b : Bool) → cond b (Some (len / size)) None ≡ Some n → n ≡ len / size
      by true e = cc
      by false e = let z : ◌≡◌ {A = ℕ} 0 1 = cc in absurd (omega arith)

  pub refused_sized : records_of size least most len ≡ None → sized size least most len ≡ false
  unfolding records_of
  refused_sized e = by (sized size least most len) e
    where
      by : (b : Bool) → cond b (Some (len / size)) None ≡ None → b ≡ false
      by true e = let z : ◌≡◌ {A = ℕ} 0 1 = cc in absurd (omega arith)
      by false e = refl

-- record i of n whole ones lies inside the bytes
pub record_inside : (size len i : ℕ) → i < len / size → i * size + size ≤ len
record_inside size len i h = le_trans (le_of_eq (sym (suc-mul i size))) (le_trans (mul-le-mul_right size h) (div-mul-le_self len size))
