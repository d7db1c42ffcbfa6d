-- The records at the start of a file that have ascending actions, and the one after them. Assumes nothing.
use mathlib.Core.Path.{◌≡◌, sym, ap, subst, ◌∙◌}
use mathlib.Core.Bool.{true, false, not}
use mathlib.Core.List.{List}
use Prim.Native.Nat.{ℕ, ◌≤◌, ◌<◌, zero-le}
use native.Mathlib.Omega.{arith}
use borrow.Author.Tests.{not-true, not-false}
use Rattle.std.proofs.Common.{Option, Some, None}
use Rattle.std.specs.Option.{unwrap_or, option_or}
use Rattle.tables.proofs.Entries.{before_first, at_first, first_le, first_is, first_none}
use Rattle.category.specs.Records.{count}
use Rattle.category.specs.Faults.{ascends}
use Rattle.category.specs.Serving.{IsFirst}
use Rattle.category.proofs.Scan.{Searched, first_or}
use Rattle.category.proofs.Ascent.{Rising, rising}
use Rattle.category_borrowed.specs.Files.{faulty_at, valid}
use Rattle.category_borrowed.proofs.Valid.{valid_ascends}
use Rattle.category_convert.specs.Serving.{ascending_prefix}

-- their number, by the first record that does not ascend
pub prefix_of : (file : List ℕ) (n : ℕ) (fall : Option ℕ) → IsFirst (λ i. not (ascends file i)) (count file) fall
    → n ≡ unwrap_or fall (count file) → n ≡ ascending_prefix file
unfolding ascending_prefix
prefix_of file n fall q e = e ∙ first_or (λ i. not (ascends file i)) (count file) fall q

pub prefix_ascends : (file : List ℕ) (n : ℕ) → n ≡ ascending_prefix file → (k : ℕ) → k < n → ascends file k ≡ true
unfolding ascending_prefix
prefix_ascends file n e k l =
    not-false (ascends file k) (before_first (λ i. not (ascends file i)) (count file) k (subst (λ (x : ℕ). k < x) e l))

pub prefix_rising : (file : List ℕ) (n : ℕ) → n ≡ ascending_prefix file → Rising file n
prefix_rising file n e = rising file n (prefix_ascends file n e)

pub prefix_le : (file : List ℕ) (n : ℕ) → n ≡ ascending_prefix file → n ≤ count file
unfolding ascending_prefix
prefix_le file n e = subst (λ (x : ℕ). x ≤ count file) (sym e) (first_le (λ i. not (ascends file i)) (count file))

-- the record after those with ascending actions is faulty
pub prefix_bad : (file : List ℕ) (n i : ℕ) → n ≡ ascending_prefix file → n ≤ i → i ≤ n → i < count file → faulty_at file i ≡ true
unfolding ascending_prefix faulty_at
prefix_bad file n i e a b l =
    let q : ascending_prefix file ≡ i = omega arith in
    let z : ascends file i ≡ false =
    not-true (ascends file i)
    (subst (λ (x : ℕ). not (ascends file x) ≡ true) q (at_first (λ i. not (ascends file i)) (count file) (omega arith))) in
    rw z

-- in a valid file they are all the records
pub prefix_valid : (file : List ℕ) → valid file ≡ true → count file ≡ ascending_prefix file
unfolding ascending_prefix
prefix_valid file v = sym (first_none (λ i. not (ascends file i)) (count file) (λ k l. ap not (valid_ascends file v k l)))

-- where the ascending records have no fault, the one after them, if there is one, is the first that has
pub first_after : (file : List ℕ) (n : ℕ) (fall r : Option ℕ) → IsFirst (λ i. not (ascends file i)) (count file) fall
    → n ≡ unwrap_or fall (count file) → Searched (faulty_at file) 0 n r → IsFirst (faulty_at file) (count file) (option_or r fall)
first_after file n fall (Some i) q e h =
    let p : n ≡ ascending_prefix file = prefix_of file n fall q e in
    let l : i < count file = omega (arith, prefix_le file n p, h.1) in
    (l, first_is (faulty_at file) (count file) i l (λ k m. h.3 k zero-le m) h.2)
first_after file n None None q e h = first_none (faulty_at file) (count file) (λ k l. h k zero-le (omega arith))
first_after file n (Some i) None q e h =
    let p : n ≡ ascending_prefix file = prefix_of file n (Some i) q e in
    (q.0, first_is (faulty_at file) (count file) i q.0 (λ k l. h k zero-le (omega arith)) (prefix_bad file n i p (omega arith) (omega arith) q.0))
