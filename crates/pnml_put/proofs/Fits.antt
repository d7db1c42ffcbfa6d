-- Texts that are put where the text's end fits after them. Assumes nothing.
use mathlib.Core.Path.{◌≡◌, refl, sym, ap, ap₂, ◌∙◌}
use mathlib.Core.Bool.{Bool, true, false, cond}
use mathlib.Core.List.{List, [], ◌∷◌, ◌++◌}
use Prim.Native.Nat.{ℕ, ◌+◌, ◌-◌, ◌≤◌, ◌<◌}
use native.Mathlib.Nat.{add-zero}
use native.Mathlib.Omega.{arith}
use lib.ListN.{length, length-append}
use lib.Seq.{sets}
use Rattle.texts.specs.Text.{bytes, decimal}
use Rattle.texts.proofs.Buffers.{sets_append}
use Rattle.texts.proofs.Digits.{decimal_length}
use Rattle.pnml_shape.specs.Drawing.{joined, openings, place_pieces, transition_pieces, pressed_pieces, optional_pieces}
use Rattle.pnml_net.specs.Nets.{entry_by}
use Rattle.pnml_put.specs.Put.{Put, Fit, Whole, named_text, arc_text}
use Rattle.pnml_put.proofs.Puts.{put_length}
use Rattle.pnml_put.proofs.Pieces.{place_text, pressed_text, optional_text, pressed_entry, optional_entry}

-- nothing yet
pub fit_none : (l : List ℕ) (at : ℕ) → at ≤ length l → Fit 0 l l at [] at
fit_none l at h = record { few = omega arith; inside = h; kept = refl; done = λ _. (sym (add-zero at), refl) }

-- what is put where there is room
pub fit : {k : ℕ} {l l' vs : List ℕ} {at r : ℕ} → at + k ≤ length l → Put k l l' at vs r → Fit k l l' at vs r
fit {k} {l} {l'} {vs} {at} {r} h p =
    record { few = omega (arith, p.next, p.bound); inside = omega (arith, p.bound); kept = put_length p; done = λ _. (p.next, p.bytes) }

-- what is not put, since the longest of its kind would not fit
pub unfit : {k : ℕ} {l vs : List ℕ} {at : ℕ} → at ≤ length l → length l - at < k → (length vs ≤ k) × (k ≤ length vs + 20) → Fit k l l at vs at
unfit {k} {l} {vs} {at} h s b = record { few = b.0; inside = h; kept = refl; done = λ d. absurd (omega (arith, b.1)) }

-- one text after another
pub fit_join : {j k : ℕ} {l₀ l₁ l₂ vs ws : List ℕ} {at mid end : ℕ} → Fit j l₀ l₁ at vs mid → Fit k l₁ l₂ mid ws end
    → Fit (j + k) l₀ l₂ at (vs ++ ws) end
fit_join {j} {k} {l₀} {l₁} {l₂} {vs} {ws} {at} {mid} {end} p q =
    record {
      few = omega (arith, p.few, q.few, length-append vs ws);
      inside = omega (arith, q.inside, p.kept);
      kept = q.kept ∙ p.kept;
      done = λ h. both h (p.done (omega (arith, length-append vs ws)));
    }
  where
    both : at + length (vs ++ ws) + 20 ≤ length l₀ → (mid ≡ at + length vs) × (l₁ ≡ sets l₀ at vs)
        → (end ≡ at + length (vs ++ ws)) × (l₂ ≡ sets l₀ at (vs ++ ws))
    both h a =
        let b = q.done (omega (arith, a.0, length-append vs ws, p.kept)) in
        (omega (arith, a.0, b.0, length-append vs ws), b.1 ∙ ap₂ (λ (l : List ℕ) (x : ℕ). sets l x ws) a.1 a.0 ∙ sets_append vs ws l₀ at)

-- the same text by another name, and another bound
pub fit_recast : {j k : ℕ} {l₀ l₁ vs ws : List ℕ} {at end : ℕ} → j ≤ k → vs ≡ ws → Fit j l₀ l₁ at vs end → Fit k l₀ l₁ at ws end
fit_recast {j} {k} {l₀} {l₁} {vs} {ws} {at} {end} h e p =
    record {
      few = omega (arith, p.few, ap length e);
      inside = p.inside;
      kept = p.kept;
      done =
          λ d.
          let b = p.done (omega (arith, ap length e)) in
          (b.0 ∙ ap (λ (x : List ℕ). at + length x) e, b.1 ∙ ap (λ (x : List ℕ). sets l₀ at x) e);
    }

-- ---- the text's end, 20 bytes

-- it fits where all does
pub whole_unfit : {k : ℕ} {l l' vs : List ℕ} {r : ℕ} (ws : List ℕ) → length ws ≡ 20 → length l' - r < 20 → Fit k l l' 0 vs r → Whole (k + 20) l l' (vs ++ ws) r
whole_unfit {k} {l} {l'} {vs} {r} ws e s p =
    record {
      few = omega (arith, p.few, length-append vs ws);
      done =
          λ h.
          let b = p.done (omega (arith, length-append vs ws)) in
          absurd (omega (arith, b.0, p.kept, length-append vs ws));
    }

pub whole_fit : {k : ℕ} {l l' l'' vs ws : List ℕ} {mid r : ℕ} → length ws ≡ 20 → Fit k l l' 0 vs mid → Put 20 l' l'' mid ws r
    → Whole (k + 20) l l'' (vs ++ ws) r
whole_fit {k} {l} {l'} {l''} {vs} {ws} {mid} {r} e p q =
    record {
      few = omega (arith, p.few, length-append vs ws);
      done =
          λ h.
          let b = p.done (omega (arith, length-append vs ws)) in
          (omega (arith, b.0, q.next, length-append vs ws), q.bytes ∙ ap₂ (λ (x : List ℕ) (y : ℕ). sets x y ws) b.1 b.0 ∙ sets_append vs ws l 0);
    }

pub whole_recast : {j k : ℕ} {l l' vs ws : List ℕ} {r : ℕ} → j ≤ k → vs ≡ ws → Whole j l l' vs r → Whole k l l' ws r
whole_recast {j} {k} {l} {l'} {vs} {ws} {r} h e p =
    record {
      few = omega (arith, p.few, ap length e);
      done = λ d. let b = p.done (omega (arith, ap length e)) in (b.0 ∙ ap length e, b.1 ∙ ap (λ (x : List ℕ). sets l 0 x) e);
    }

-- ---- how long the elements are

pub opening_long : (length (joined openings) ≤ 139) × (139 ≤ length (joined openings) + 20)
unfolding openings joined
opening_long = (omega arith, omega arith)

pub long : (a b c d e : List ℕ) → length (a ++ (b ++ (c ++ (d ++ e)))) ≡ length a + (length b + (length c + (length d + length e)))
long a b c d e = simp length-append

pub place_long : (i m : ℕ) → i < 100 → m < 10 → (length (joined (place_pieces i m)) ≤ 71) × (71 ≤ length (joined (place_pieces i m)) + 20)
place_long i m h k =
    let e = ap length (place_text i m) in
    let l = long (bytes "<place id=\"p") (decimal i) (bytes "\"><initialMarking><text>") (decimal m) (bytes "</text></initialMarking></place>") in
    let a = decimal_length 1 i (omega arith) in
    let b = decimal_length 0 m (omega arith) in
    (omega (arith, e, l, a, b), omega (arith, e, l, a, b))

-- a transition up to its action, with its end
pub named_long : (i a : ℕ) (end : List ℕ) → length (named_text i a ++ end) ≡ 31 + length (decimal i) + length (decimal a) + length end
named_long i a end = simp length-append (omega arith)

-- its bounds, by those of its end
end_long : {l : List ℕ} (i a : ℕ) (end : List ℕ) → i < 100 → a < 100000 → named_text i a ++ end ≡ l
    → (length l ≤ 38 + length end) × (38 + length end ≤ length l + 20)
end_long {l} i a end h k t =
    let e = ap length t in
    let n = named_long i a end in
    let x = decimal_length 1 i (omega arith) in
    let y = decimal_length 4 a (omega arith) in
    (omega (arith, e, n, x, y), omega (arith, e, n, x, y))

pub pressed_long : (i a : ℕ) → i < 100 → a < 100000
    → (length (joined (pressed_pieces i a)) ≤ 65) × (65 ≤ length (joined (pressed_pieces i a)) + 20)
pressed_long i a h k = end_long i a (bytes "</text></name></transition>") h k (pressed_text i a)

pub optional_long : (i a : ℕ) → i < 100 → a < 100000
    → (length (joined (optional_pieces i a)) ≤ 104) × (104 ≤ length (joined (optional_pieces i a)) + 20)
optional_long i a h k =
    end_long i a (bytes "</text></name><toolspecific tool=\"desk\" version=\"1\"/></transition>") h k (optional_text i a)

pub transition_long : {most : ℕ} (i a : ℕ) (b : Bool) → i < 100 → a < 65536 → most ≡ cond b 104 65
    → (length (joined (transition_pieces i (entry_by a b))) ≤ most) × (most ≤ length (joined (transition_pieces i (entry_by a b))) + 20)
transition_long i a true h k e =
    let p = end_long i a (bytes "</text></name><toolspecific tool=\"desk\" version=\"1\"/></transition>") h (omega arith) (optional_text i a ∙ optional_entry i a refl) in
    (omega (arith, p.0), omega (arith, p.1))
transition_long i a false h k e =
    let p = end_long i a (bytes "</text></name></transition>") h (omega arith) (pressed_text i a ∙ pressed_entry i a k refl) in
    (omega (arith, p.0), omega (arith, p.1))

pub longest_most : {most : ℕ} (b : Bool) → most ≡ cond b 104 65 → most ≤ 104
longest_most true e = omega arith
longest_most false e = omega arith

pub longer : (a b c d e f g : List ℕ)
    → length (a ++ (b ++ (c ++ (d ++ (e ++ (f ++ g)))))) ≡ length a + (length b + (length c + (length d + (length e + (length f + length g)))))
longer a b c d e f g = simp length-append

pub arc_long : (i v a w b : ℕ) → i < 10000 → a < 100 → b < 100
    → (length (arc_text i v a w b) ≤ 43) × (43 ≤ length (arc_text i v a w b) + 20)
arc_long i v a w b h j k =
    let n = longer (bytes "<arc id=\"a") (decimal i) (bytes "\" source=\"") (v ∷ decimal a) (bytes "\" target=\"") (w ∷ decimal b) (bytes "\"/>") in
    let x = decimal_length 3 i (omega arith) in
    let y = decimal_length 1 a (omega arith) in
    let z = decimal_length 1 b (omega arith) in
    (omega (arith, n, x, y, z), omega (arith, n, x, y, z))
