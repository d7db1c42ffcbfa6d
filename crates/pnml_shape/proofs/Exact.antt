-- The machine reads a text as the drawing that it draws, or stops at the offset where it leaves the shape. Assumes nothing.
use mathlib.Core.Path.{◌≡◌, refl, sym, ap, ◌∙◌, subst}
use mathlib.Core.Bool.{true}
use mathlib.Core.List.{List, [], ◌∷◌, ◌++◌, append-nil}
use mathlib.Core.Option.{Option, none, some}
use mathlib.Core.Logic.{◌⊎◌, inl, inr, ⊎_elim}
use Prim.Native.Nat.{ℕ, zero, suc, ◌+◌, ◌≤◌, ◌<◌, zero-le}
use native.Mathlib.Nat.{zero-add, add-zero}
use native.Mathlib.Numerals.{add-one}
use native.Mathlib.Omega.{arith}
use lib.ListN.{length, take}
use Rattle.tables.proofs.Below.{lt_or_ge}
use Rattle.pnml_shape.specs.Drawing.{Drawing, pieces, joined, written, good}
use Rattle.pnml_shape.specs.Shape.{Spaced, all_white, Draws, OfShape, Leaves}
use Rattle.pnml_shape.specs.Machine.{Format, ends, byte, space, either, number, digits, turn, start, step, Outcome, stopped, drawn, finish, or_stop, scan}
use Rattle.pnml_shape.specs.Theorem.{reading, Right, Exact}
use Rattle.pnml_shape.proofs.Scans.{Reads, stopped≢drawn, anywhere}
use Rattle.pnml_shape.proofs.Complete.{complete}
use Rattle.pnml_shape.proofs.Sound.{sound}
use Rattle.pnml_shape.proofs.Viable.{Open, start_open, step_open, completed}

-- where the machine stops: after j bytes it is at an open format, and with one byte more it stops as well
pub record Halt (F : Format) (at : ℕ) (s : List ℕ) (k : ℕ) : Type 0 where
  pub count : ℕ
  pub place : k ≡ at + count
  pub inside : count ≤ length s
  pub there : Format
  pub open_there : Open there
  pub until : (c : List ℕ) → scan F at (take count s ++ c) ≡ scan there k c
  pub no_more : count < length s → (c : List ℕ) → scan F at (take (suc count) s ++ c) ≡ stopped k

stopped_same : (j k : ℕ) → stopped j ≡ stopped k → j ≡ k
stopped_same j k e = cc

drawn≢stopped : (d : Drawing) (k : ℕ) → drawn d ≡ stopped k → ⊥
drawn≢stopped d k e = stopped≢drawn (sym e)

-- at the end of the text
finish_stops : (F : Format) (at k : ℕ) → finish F at ≡ stopped k → k ≡ at
unfolding finish
finish_stops (ends d) at k e = absurd (drawn≢stopped d k e)
finish_stops (byte c F) at k e = sym (stopped_same at k e)
finish_stops (space F) at k e = sym (stopped_same at k e)
finish_stops (either c ok F G) at k e = sym (stopped_same at k e)
finish_stops (number lo hi K) at k e = sym (stopped_same at k e)
finish_stops (digits v lo hi K) at k e = sym (stopped_same at k e)
finish_stops (turn d) at k e = sym (stopped_same at k e)

halts : (s : List ℕ) (F : Format) (at k : ℕ) → Open F → scan F at s ≡ stopped k → Halt F at s k
unfolding scan or_stop
halts [] F at k o e =
    let same = finish_stops F at k e in
    record {
      count = 0;
      place = same ∙ sym (add-zero at);
      inside = zero-le;
      there = F;
      open_there = o;
      until = λ c. ap (λ n. scan F n c) (sym same);
      no_more = λ l c. absurd (omega arith);
    }
halts (b ∷ s) F at k o e = by (step F b) refl e (λ G q h. halts s G (at + 1) k (step_open F o b G q) h)
  where
    by : (x : Option Format) → step F b ≡ x → or_stop x at (λ G. scan G (at + 1) s) ≡ stopped k
        → ((G : Format) → step F b ≡ some G → scan G (at + 1) s ≡ stopped k → Halt G (at + 1) s k) → Halt F at (b ∷ s) k
    by none q h rest =
        let same = stopped_same at k h in
        record {
          count = 0;
          place = sym same ∙ sym (add-zero at);
          inside = zero-le;
          there = F;
          open_there = o;
          until = λ c. ap (λ n. scan F n c) same;
          no_more = λ l c. ap (λ y. or_stop y at (λ G. scan G (at + 1) c)) q ∙ h;
        }
    by (some G) q h rest =
        let t = rest G q h in
        record {
          count = suc t.count;
          place = let p = t.place in omega arith;
          inside = let i = t.inside in omega arith;
          there = t.there;
          open_there = t.open_there;
          until = λ c. ap (λ y. or_stop y at (λ H. scan H (at + 1) (take t.count s ++ c))) q ∙ t.until c;
          no_more = λ l c. ap (λ y. or_stop y at (λ H. scan H (at + 1) (take (suc t.count) s ++ c))) q ∙ t.no_more (omega arith) c;
        }

-- ---- the theorem

draws : (s : List ℕ) (d : Drawing) → reading s ≡ drawn d → Draws s d
unfolding reading
draws s d e = sound s d (anywhere s start 0 d e)

read_back : (s : List ℕ) (d : Drawing) → Draws s d → reading s ≡ drawn d
unfolding reading
read_back s d h = complete s d h 0

leaves : (s : List ℕ) (k : ℕ) → reading s ≡ stopped k → Leaves s k
unfolding reading
leaves s k e =
    let t = halts s start 0 k start_open e in
    let same : t.count ≡ k = sym (zero-add t.count) ∙ sym t.place in
    let (c, d, h) = completed t.there t.open_there in
    record {
      inside = let i = t.inside in omega arith;
      continues = (c, record { drawing = d; draws = draws (take k s ++ c) d (ap (λ n. scan start 0 (take n s ++ c)) (sym same) ∙ t.until c ∙ h k) });
      hopeless = λ l r o. stopped≢drawn
          (sym (ap (λ n. scan start 0 (take (suc n) s ++ r)) (sym same) ∙ t.no_more (omega arith) r) ∙ read_back (take (suc k) s ++ r) o.drawing o.draws);
      other = λ o. stopped≢drawn (sym e ∙ read_back s o.drawing o.draws);
    }

right : (s : List ℕ) (o : Outcome) → reading s ≡ o → Right s o
right s (stopped k) e = leaves s k e
right s (drawn d) e = draws s d e

-- two offsets at which a text leaves the shape are one: of two the lower is hopeless one byte on, and the higher can still be continued
take_more : (s c : List ℕ) (j k : ℕ) → j < k → k ≤ length s → (r : List ℕ) × (take k s ++ c ≡ take (suc j) s ++ r)
take_more [] c j k l h = absurd (omega arith)
take_more (b ∷ s) c j zero l h = absurd (omega arith)
take_more (b ∷ s) c zero (suc k) l h = (take k s ++ c, refl)
take_more (b ∷ s) c (suc j) (suc k) l h =
    let (r, e) = take_more s c j k (omega arith) (omega arith) in (r, ap (λ x. b ∷ x) e)

lower_hopeless : (s : List ℕ) (j k : ℕ) → j < k → Leaves s j → Leaves s k → ⊥
lower_hopeless s j k l x y =
    let (c, o) = y.continues in
    let (r, e) = take_more s c j k l y.inside in
    x.hopeless (let i = y.inside in omega arith) r (subst (λ z. OfShape z) e o)

one_offset : (s : List ℕ) (j k : ℕ) → Leaves s j → Leaves s k → j ≡ k
one_offset s j k x y =
    ⊎_elim (λ l. absurd (lower_hopeless s j k l x y)) (λ l. ⊎_elim (λ m. absurd (lower_hopeless s k j m y x)) (λ m. omega arith) (lt_or_ge k j)) (lt_or_ge j k)

only_by : (s : List ℕ) (o p : Outcome) → Right s o → Right s p → o ≡ p
only_by s (stopped j) (stopped k) x y = ap (λ n. stopped n) (one_offset s j k x y)
only_by s (stopped j) (drawn d) x y = absurd (x.other (record { drawing = d; draws = y }))
only_by s (drawn d) (stopped k) x y = absurd (y.other (record { drawing = d; draws = x }))
only_by s (drawn d) (drawn e) x y = sym (read_back s d x) ∙ read_back s e y

-- the written text is a spacing with no white space
spaced_joined : (ps : List (List ℕ)) → Spaced ps (joined ps)
unfolding Spaced joined all_white
spaced_joined [] = refl
spaced_joined (p ∷ ps) = ([], joined ps, refl, refl, spaced_joined ps)

pub written_draws : (d : Drawing) → good d ≡ true → Draws (written d) d
unfolding written
written_draws d g = record { fine = g; spaced = spaced_joined (pieces d) }

pub exact : Exact
exact =
    record {
      right = λ s. right s (reading s) refl;
      only = λ s o h. only_by s o (reading s) h (right s (reading s) refl);
      back = λ d g. read_back (written d) d (written_draws d g);
    }
