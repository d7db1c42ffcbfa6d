-- Which arcs a list has, by the sets that it gives; a set with one number more. Assumes nothing.
use mathlib.Core.Path.{◌≡◌, refl, sym, ap, ap₂, ◌∙◌}
use mathlib.Core.Bool.{Bool, true, false, cond, not, ◌&&◌, ◌||◌, or-false}
use mathlib.Core.List.{List, [], ◌∷◌}
use Prim.Native.Nat.{ℕ, ◌^◌, ◌≤◌, ◌<◌}
use lib.Bits.{or_lt}
use lib.Pow.{pow-lt}
use lib.Dec.{eqb}
use borrow.Author.Tests.{eqb-true, eq-eqb, ltb-true, lt-ltb}
use Rattle.tables.proofs.Tests.{and_left, and_right, and_intro, or_right}
use Rattle.bitset.specs.Sets.{member, union, add, within}
use Rattle.bitset.proofs.Membership.{member_union, member_bit, member_empty}
use Rattle.bitset.proofs.Relations.{within_wide}
use Rattle.pnml_shape.specs.Drawing.{Arc}
use Rattle.pnml_net.specs.Nets.{joins, set_of}

-- ---- a set with one number more

pub member_add : (s n : ℕ) (b : Bool) (k : ℕ) → member (add s n b) k ≡ (member s k || (b && eqb k n))
unfolding add
member_add s n true k = member_union s (2 ^ n) k ∙ ap (λ b. member s k || b) (member_bit n k)
member_add s n false k = sym (or-false (member s k))

pub within_more : (n n' s : ℕ) → n ≤ n' → within n s ≡ true → within n' s ≡ true
unfolding within
within_more n n' s l h = within_wide n n' s (ltb-true s (2 ^ n) h) l

pub within_add : (n s k : ℕ) (b : Bool) → within n s ≡ true → k < n → within n (add s k b) ≡ true
unfolding add union within
within_add n s k true h l = lt-ltb _ (2 ^ n) (or_lt n s (2 ^ k) (ltb-true s (2 ^ n) h) (pow-lt l))
within_add n s k false h l = h

-- ---- the arcs of a list

abbrev pub arc : (transition : ℕ) (post : Bool) (place : ℕ) → Arc
arc t q p = record { transition = t; post = q; place = p }

-- a and x are the same arc
pub same_arc : (a x : Arc) → Bool
same_arc a x = joins a x.transition x.post && eqb x.place a.place

same_post : (q q' : Bool) → cond q' q (not q) ≡ true → q ≡ q'
same_post true true e = refl
same_post false false e = refl
same_post true false e = sym e
same_post false true e = e

pub same_arc_is : (a x : Arc) → same_arc a x ≡ true → a ≡ x
unfolding same_arc joins
same_arc_is a x e =
    let j = eqb a.transition x.transition in
    let k = cond x.post a.post (not a.post) in
    let both : (j && k) ≡ true = and_left (j && k) (eqb x.place a.place) e in
    let t : a.transition ≡ x.transition = eqb-true a.transition x.transition (and_left j k both) in
    let q : a.post ≡ x.post = same_post a.post x.post (and_right j k both) in
    let p : x.place ≡ a.place = eqb-true x.place a.place (and_right (j && k) (eqb x.place a.place) e) in
    ap (λ (n : ℕ). arc n a.post a.place) t ∙ ap₂ (λ b (n : ℕ). arc x.transition b n) q (sym p)

own_post : (q : Bool) → cond q q (not q) ≡ true
own_post true = refl
own_post false = refl

pub same_arc_self : (a : Arc) → same_arc a a ≡ true
unfolding same_arc joins
same_arc_self a =
    and_intro (eqb a.transition a.transition && cond a.post a.post (not a.post)) (eqb a.place a.place)
    (and_intro (eqb a.transition a.transition) (cond a.post a.post (not a.post)) (eq-eqb a.transition a.transition refl)
    (own_post a.post))
    (eq-eqb a.place a.place refl)

-- the list has the arc x
unfoldable pub has : List Arc → Arc → Bool
has l x = member (set_of l x.transition x.post) x.place

pub has_cons : (a : Arc) (l : List Arc) (x : Arc) → has (a ∷ l) x ≡ (has l x || same_arc a x)
unfolding has set_of same_arc
has_cons a l x = member_add (set_of l x.transition x.post) a.place (joins a x.transition x.post) x.place

pub has_none : (x : Arc) → has [] x ≡ false
unfolding has set_of
has_none x = member_empty x.place

pub has_head : (a : Arc) (l : List Arc) → has (a ∷ l) a ≡ true
has_head a l = has_cons a l a ∙ or_right (has l a) (same_arc a a) (same_arc_self a)

-- another arc than the last one stands before it
pub has_rest : (a : Arc) (l : List Arc) (x : Arc) → same_arc a x ≡ false → has (a ∷ l) x ≡ has l x
has_rest a l x e = has_cons a l x ∙ ap (λ b. has l x || b) e ∙ or-false (has l x)
