-- A search from a number on for one that passes a test: for any test. Assumes nothing.
use mathlib.Core.Path.{◌≡◌, refl, sym, subst}
use mathlib.Core.Bool.{Bool, true, false}
use mathlib.Core.Logic.{⊎_elim}
use mathlib.Core.List.{List}
use Prim.Native.Nat.{ℕ, ◌+◌, ◌-◌, ◌≤◌, ◌<◌}
use native.Mathlib.Omega.{arith}
use lib.ListN.{length, get_or}
use borrow.Author.Tests.{le-ltb}
use denote.Param.Members.{Mut}
use Rattle.std.proofs.Common.{Option, MatchOption}
use Rattle.std.proofs.iter.Yields.{nat_range_steps}
use Rattle.std.proofs.lemmas.Iterator.{cases_from_any, YieldsList-from_range}
use Rattle.std.proofs.lemmas.List.FromFn.{length-range_with_len, get_or-range_with_len}
use Rattle.std.specs.Bool.{MatchBool}
use Rattle.std.specs.Fn.{Called}
use Rattle.std.specs.Iterator.{YieldsThen}
use Rattle.std.specs.List.{range_with_len, FoldsTo, AllWithin, HoldsAt}
use Rattle.tables.specs.Below.{some_below}
use Rattle.tables.specs.Lists.{first}
use Rattle.tables.proofs.Entries.{first_none}
use Rattle.tables.proofs.Below.{lt_or_ge, some_is}
use Rattle.category_convert.specs.Serving.{SomeFrom}

-- `any` over a range, said of the numbers in it and not of a list
pub any_from_Range : {F : Type 0} {g : Mut F (ℕ × Unit {0}) Bool} (s u : _) (a b : ℕ) (f : F) (r : Bool) (Yes No : ℕ → Type 0)
    → (xs : List ℕ) × (o : Option ℕ) × (j : F) × YieldsThen nat_range_steps s xs o u × FoldsTo (λ p x q. Called g p (x, tt) false q) f xs j × MatchOption o (r ≡ false) (λ x. (r ≡ true) × ((h : F) × Called g j (x, tt) true h))
    → s ≡ record { start = a; end = b }
    → ((x : ℕ) (q : F) → Called g f (x, tt) true q → Yes x) → ((x : ℕ) (q : F) → Called g f (x, tt) false q → (q ≡ f) × No x)
    → MatchBool r ((k : ℕ) × (a ≤ k) × (k < b) × Yes k) ((k : ℕ) → a ≤ k → k < b → No k)
any_from_Range s u a b f r Yes No d e yes' no' = by r (cases_from_any u f r Yes No d (YieldsList-from_range a b _ e refl) yes' no')
  where
    all : List ℕ
    all = range_with_len a (b - a)

    long : length all ≡ b - a
    long = length-range_with_len a (b - a)

    at : (k : ℕ) → k < b - a → get_or all k 0 ≡ a + k
    at k l = get_or-range_with_len a (b - a) k 0 l

    by : (t : Bool) → MatchBool t ((k : ℕ) × (k < length all) × HoldsAt Yes all k) (AllWithin No all 0 (length all))
        → MatchBool t ((k : ℕ) × (a ≤ k) × (k < b) × Yes k) ((k : ℕ) → a ≤ k → k < b → No k)
    by true h =
        let l : h.0 < b - a = omega (arith, long, h.1) in
        (a + h.0, omega arith, omega arith, subst Yes (at h.0 l) (h.2 0))
    by false h = λ k p q.
        let l : k - a < b - a = omega arith in
        subst No {x = get_or all (k - a) 0} {y = k} (omega (arith, at (k - a) l)) (h (k - a) 0 (omega arith) (omega (arith, long)))

-- where none before that number passes either
pub some_from : (f : ℕ → Bool) (from n : ℕ) (r : Bool) → SomeFrom f from n r → ((k : ℕ) → k < from → f k ≡ false) → r ≡ some_below f n
unfolding some_below
some_from f from n true p h = sym (some_is f n p.0 p.2 p.3)
some_from f from n false p h =
    let e : first f n ≡ n = first_none f n (λ k l. ⊎_elim (h k) (λ q. p k q l) (lt_or_ge k from)) in
    sym (le-ltb (first f n) n (omega arith))
