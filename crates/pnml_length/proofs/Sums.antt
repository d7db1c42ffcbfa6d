-- Lengths of elements, one after the other. Assumes nothing.
use mathlib.Core.Path.{◌≡◌, refl, sym, ap, ◌∙◌}
use mathlib.Core.Bool.{Bool, true, false, cond}
use mathlib.Core.List.{List, [], ◌∷◌, ◌++◌, append-nil}
use Prim.Native.Nat.{ℕ, ◌+◌, ◌*◌, ◌/◌, ◌≤◌, ◌<◌}
use native.Mathlib.Nat.{add-zero}
use native.Mathlib.Omega.{arith}
use lib.ListN.{length, length-append}
use Rattle.texts.specs.Text.{bytes, decimal}
use Rattle.texts.proofs.Digits.{decimal_one, decimal_more}
use Rattle.pnml_shape.specs.Drawing.{Arc, arcs, joined, place_pieces, transition_pieces, arc_piece, openings}
use Rattle.pnml_net.specs.Nets.{mark_of, entry_by}
use Rattle.bitset.specs.Sets.{member}
use Rattle.pnml_put.specs.Put.{arc_of, arc_where, arcs_from, body_text, places_text, transitions_text, entry_at, arcs_text, net_text}
use Rattle.net.specs.Table.{table_sized, transitions}
use Rattle.pnml_put.proofs.Pieces.{place_text, pressed_text, optional_text, pressed_entry, optional_entry, post_text, pre_text}
use Rattle.pnml_put.proofs.Fits.{long, longer, named_long}
use Rattle.pnml_put.proofs.Arcs.{arcs-text, arcs_append}
use Rattle.pnml_put.proofs.Texts.{net-text}
use Rattle.pnml_length.specs.Count.{Count, CountArcs}

-- ---- digits

length_one : (n : ℕ) → n < 10 → length (decimal n) ≡ 1
length_one n h = ap length (decimal_one n h)

length_more : (n : ℕ) → 10 ≤ n → length (decimal n) ≡ length (decimal (n / 10)) + 1
length_more n h = ap length (decimal_more n h) ∙ length-append (decimal (n / 10)) _

pub digits_one : (n : ℕ) → n < 10 → 1 ≡ length (decimal n)
digits_one n h = sym (length_one n h)

pub digits_two : (n : ℕ) → 10 ≤ n → n < 100 → 2 ≡ length (decimal n)
digits_two n h k = omega (arith, length_more n h, digits_one (n / 10) (omega arith))

pub digits_three : (n : ℕ) → 100 ≤ n → n < 1000 → 3 ≡ length (decimal n)
digits_three n h k = omega (arith, length_more n (omega arith), digits_two (n / 10) (omega arith) (omega arith))

pub digits_four : (n : ℕ) → 1000 ≤ n → n < 10000 → 4 ≡ length (decimal n)
digits_four n h k = omega (arith, length_more n (omega arith), digits_three (n / 10) (omega arith) (omega arith))

pub digits_five : (n : ℕ) → 10000 ≤ n → n < 100000 → 5 ≡ length (decimal n)
digits_five n h k = omega (arith, length_more n (omega arith), digits_four (n / 10) (omega arith) (omega arith))

-- of a number by another name
pub widened : {m n d : ℕ} → m ≡ n → (d ≡ length (decimal m)) × (d ≤ 5) → (d ≡ length (decimal n)) × (d ≤ 5)
widened e p = (p.0 ∙ ap (λ (x : ℕ). length (decimal x)) e, p.1)

-- ---- elements

pub place_length : (i m p d : ℕ) → d ≡ length (decimal i) → 69 + d ≡ length (joined (place_pieces i (mark_of m p)))
unfolding mark_of
place_length i m p d e =
    omega (
      arith,
      e,
      mark (member m p),
      ap length (place_text i (mark_of m p)),
      long (bytes "<place id=\"p") (decimal i) (bytes "\"><initialMarking><text>") (decimal (mark_of m p)) (bytes "</text></initialMarking></place>"),
    )
  where
    mark : (b : Bool) → length (decimal (cond b 1 0)) ≡ 1
    mark true = length_one 1 (omega arith)
    mark false = length_one 0 (omega arith)

-- a transition, whose number and action have at most 5 digits each
module _ {d f : ℕ} {b : Bool} (i a : ℕ) (p : (d ≡ length (decimal i)) × (d ≤ 5)) (q : (f ≡ length (decimal a)) × (f ≤ 5)) where
  pub pressed_length : a < 65536 → b ≡ false → Count 107 (joined (transition_pieces i (entry_by a b))) (58 + d + f)
  pressed_length h e =
      record {
        exact =
            omega (
              arith,
              p.0,
              q.0,
              named_long i a (bytes "</text></name></transition>"),
              ap length (pressed_text i a ∙ pressed_entry i a h e),
            );
        bound = omega (arith, p.1, q.1);
      }

  pub optional_length : b ≡ true → Count 107 (joined (transition_pieces i (entry_by a b))) (58 + d + f + 39)
  optional_length e =
      record {
        exact =
            omega (
              arith,
              p.0,
              q.0,
              named_long i a (bytes "</text></name><toolspecific tool=\"desk\" version=\"1\"/></transition>"),
              ap length (optional_text i a ∙ optional_entry i a e),
            );
        bound = omega (arith, p.1, q.1);
      }

arc_length : (i t p : ℕ) (post : Bool) → 35 + length (decimal i) + length (decimal t) + length (decimal p) ≡ length (arc_piece i (arc_of t post p))
arc_length i t p true =
    omega (
      arith,
      ap length (post_text i t p),
      longer (bytes "<arc id=\"a") (decimal i) (bytes "\" source=\"") (116 ∷ decimal t) (bytes "\" target=\"") (112 ∷ decimal p) (bytes "\"/>"),
    )
arc_length i t p false =
    omega (
      arith,
      ap length (pre_text i t p),
      longer (bytes "<arc id=\"a") (decimal i) (bytes "\" source=\"") (112 ∷ decimal p) (bytes "\" target=\"") (116 ∷ decimal t) (bytes "\"/>"),
    )

-- ---- arcs

pub no_arcs : (before n : ℕ) → CountArcs 0 before n [] before n
unfolding arcs_from
no_arcs b n = record { exact = sym (add-zero b); bound = omega arith; total = sym (add-zero n); few = omega arith }

pub join_arcs : {j k b mid end n c d : ℕ} {l m : List Arc} → CountArcs j b n l mid c → CountArcs k mid c m end d → CountArcs (j + k) b n (m ++ l) end d
join_arcs {j} {k} {b} {mid} {end} {n} {c} {d} {l} {m} p q =
    record {
      exact =
          omega (
            arith,
            p.exact,
            q.exact,
            ap (λ (x : ℕ). length (arcs_from x m)) p.total,
            length-append (arcs_from n l) (arcs_from (n + length l) m),
            ap length (arcs_append n m l),
          );
      bound = omega (arith, p.bound, q.bound);
      total = omega (arith, p.total, q.total, length-append m l);
      few = omega (arith, p.few, q.few);
    }

pub recast_arcs : {j k b end n c : ℕ} {l m : List Arc} → j ≤ k → l ≡ m → CountArcs j b n l end c → CountArcs k b n m end c
recast_arcs {j} {k} {b} {end} {n} {c} {l} {m} h e p =
    record {
      exact = p.exact ∙ ap (λ (x : List Arc). b + length (arcs_from n x)) e;
      bound = omega (arith, p.bound);
      total = p.total ∙ ap (λ (x : List Arc). n + length x) e;
      few = omega (arith, p.few);
    }

module _ (b n t p : ℕ) (post : Bool) where
  abbrev here : Bool → List Arc
  here w = cond w (arc_of t post p ∷ []) []

  pub arc_in : {w : Bool} {x y z : ℕ} → w ≡ true → (x ≡ length (decimal n)) × (x ≤ 5) → (y ≡ length (decimal t)) × (y ≤ 5)
      → (z ≡ length (decimal p)) × (z ≤ 5) → CountArcs 1 b n (arc_where w t post p) (b + (35 + x + y + z)) (n + 1)
  unfolding arc_where arcs_from
  arc_in {w} {x} {y} {z} e f g h = recast_arcs {l = here true} (omega arith) (ap here (sym e)) one
    where
      one : CountArcs 1 b n (here true) (b + (35 + x + y + z)) (n + 1)
      one =
          record {
            exact =
                omega
                (arith, f.0, g.0, h.0, arc_length n t p post, ap (λ (k : ℕ). length (arc_piece k (arc_of t post p))) (add-zero n));
            bound = omega (arith, f.1, g.1, h.1);
            total = refl;
            few = omega arith;
          }

  pub arc_out : {w : Bool} → w ≡ false → CountArcs 1 b n (arc_where w t post p) b n
  unfolding arc_where
  arc_out {w} e = recast_arcs (omega arith) (ap here (sym e)) (no_arcs b n)

pub arcs_count : {k r c : ℕ} (l : List Arc) → CountArcs k 0 0 l r c → Count (50 * k) (joined (arcs l)) r
arcs_count l p = record { exact = omega (arith, p.exact, ap length (arcs-text l)); bound = omega (arith, p.bound) }

-- ---- one element more

pub none : Count 0 [] 0
none = record { exact = refl; bound = omega arith }

pub count_more : {j k r x : ℕ} {us : List ℕ} (d : ℕ) (vs ws : List ℕ) → Count j vs r → x ≡ length ws → x ≤ d → j + d ≤ k → vs ++ ws ≡ us
    → Count k us (r + x)
count_more {j} {k} {r} {x} {us} d vs ws p e h g q =
    record { exact = omega (arith, p.exact, length-append vs ws, ap length q); bound = omega (arith, p.bound) }

pub recount : {j k r : ℕ} {vs us : List ℕ} → j ≤ k → vs ≡ us → Count j vs r → Count k us r
recount h e p = record { exact = p.exact ∙ ap length e; bound = omega (arith, p.bound) }

-- ---- the whole

opening_length : length (joined openings) ≡ 139
unfolding openings joined
opening_length = refl

pub whole_length : (b : List ℕ) (n m x y z : ℕ) → table_sized b ≡ true → x ≡ length (places_text (mark_of m) n)
    → y ≡ length (transitions_text (entry_at b) (transitions b)) → z ≡ length (arcs_text b n (transitions b))
    → 159 + x + y + z ≡ length (net_text b n m)
whole_length b n m x y z s e f g =
    omega (
      arith,
      e,
      f,
      g,
      opening_length,
      ap length (net-text b s n m),
      length-append (body_text b n m (transitions b)) (bytes "</page></net></pnml>"),
      long (joined openings) (places_text (mark_of m) n) (transitions_text (entry_at b) (transitions b)) (arcs_text b n (transitions b)) [],
      ap (λ (t : List ℕ). length (joined openings ++ (places_text (mark_of m) n ++ (transitions_text (entry_at b) (transitions b) ++ t))))
          (append-nil (arcs_text b n (transitions b))),
    )
