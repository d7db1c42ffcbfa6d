-- The search in one file: what it answers, by the record where it stops; in a file whose actions ascend that is the one record that has
-- the action. Assumes nothing.
use mathlib.Core.Path.{◌≡◌, refl, sym, ◌∙◌, subst}
use mathlib.Core.Bool.{Bool, true, false, cond, ◌&&◌, true≢false}
use mathlib.Core.Logic.{◌⊎◌, inl, inr, ⊎_elim}
use mathlib.Core.List.{List}
use Prim.Native.Nat.{ℕ, ◌≤◌, ◌<◌}
use native.Mathlib.Nat.{le_antisymm}
use native.Mathlib.Omega.{arith}
use lib.Dec.{ltb}
use borrow.Author.Tests.{ltb-true, lt-ltb, le-ltb, lt-leb, le-leb, eqb-true, eq-eqb}
use Rattle.tables.specs.Lists.{first}
use Rattle.tables.proofs.Below.{lt_or_ge}
use Rattle.tables.proofs.Entries.{before_first, at_first, first_le, first_is}
use Rattle.category.specs.Records.{count, action_at, has_action}
use Rattle.category.specs.Labels.{reaches, stop_of, record_of}
use Rattle.category.proofs.Ascent.{Rising}

module _ (file : List ℕ) (a : ℕ) where
  -- by where the search stops: at the record s, or nowhere
  module _ (s : ℕ) (e : stop_of file a ≡ s) (l : s < count file) where
    pub record_hit : has_action file a s ≡ true → record_of file a ≡ s
    unfolding record_of
    record_hit h = rw (e, lt-ltb s (count file) l, h)

    pub record_other : has_action file a s ≡ false → record_of file a ≡ count file
    unfolding record_of
    record_other h = rw (e, lt-ltb s (count file) l, h)

  pub record_end : stop_of file a ≡ count file → record_of file a ≡ count file
  unfolding record_of
  record_end e = let l : count file ≤ count file = omega arith in rw (e, le-ltb (count file) (count file) l)

  -- it answers a record of the file that has the action, or nothing
  found_or_none : ((record_of file a < count file) × (has_action file a (record_of file a) ≡ true)) ⊎ (record_of file a ≡ count file)
  unfolding record_of
  found_or_none = by (ltb (stop_of file a) (count file)) (has_action file a (stop_of file a)) refl refl
    where
      at : Bool → ℕ
      at b = cond b (stop_of file a) (count file)

      by : (b h : Bool) → ltb (stop_of file a) (count file) ≡ b → has_action file a (stop_of file a) ≡ h
          → ((at (b && h) < count file) × (has_action file a (at (b && h)) ≡ true)) ⊎ (at (b && h) ≡ count file)
      by true true l q = inl (ltb-true (stop_of file a) (count file) l, q)
      by true false l q = inr refl
      by false h l q = inr refl

  -- nothing, where no record has the action
  pub record_none : count file ≤ first (has_action file a) (count file) → record_of file a ≡ count file
  record_none n = ⊎_elim found (λ q. q) found_or_none
    where
      found : (record_of file a < count file) × (has_action file a (record_of file a) ≡ true) → record_of file a ≡ count file
      found p =
          absurd (true≢false (sym p.1 ∙ before_first (has_action file a) (count file) (record_of file a) (omega (arith, p.0))))

-- a file whose actions ascend
module _ {file : List ℕ} (r : Rising file (count file)) where
  pub record_is : (i : ℕ) → i < count file → i ≡ record_of file (action_at file i)
  unfolding stop_of reaches has_action
  record_is i l = sym (record_hit file (action_at file i) i stops l (eq-eqb (action_at file i) (action_at file i) refl))
    where
      stops : stop_of file (action_at file i) ≡ i
      stops =
          first_is (reaches file (action_at file i)) (count file) i l (λ k h. lt-leb (action_at file i) (action_at file k) (r.rises k i h l))
          (le-leb (action_at file i) (action_at file i) (omega arith))

  -- the search finds what any search for a record with the action finds
  module _ (a : ℕ) where
    of_action : (i : ℕ) → i < count file → has_action file a i ≡ true → i ≡ record_of file a
    unfolding has_action
    of_action i l h = subst (λ (x : ℕ). i ≡ record_of file x) (eqb-true (action_at file i) a h) (record_is i l)

    pub record_first : record_of file a ≡ first (has_action file a) (count file)
    record_first = ⊎_elim some none (lt_or_ge (first (has_action file a) (count file)) (count file))
      where
        some : first (has_action file a) (count file) < count file → record_of file a ≡ first (has_action file a) (count file)
        some l = sym (of_action (first (has_action file a) (count file)) l (at_first (has_action file a) (count file) l))

        none : count file ≤ first (has_action file a) (count file) → record_of file a ≡ first (has_action file a) (count file)
        none l = record_none file a l ∙ le_antisymm l (first_le (has_action file a) (count file))
