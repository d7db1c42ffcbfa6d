-- The parts of an arc in a text, and the arc that follows another. For any text and bounds. Assumes nothing.
use mathlib.Core.Path.{◌≡◌, refl, sym, ap, ◌∙◌}
use mathlib.Core.Bool.{Bool, true, false, cond, not, ◌&&◌}
use mathlib.Core.List.{List}
use mathlib.Core.Option.{Option, some, none}
use Prim.Native.Nat.{ℕ, ◌+◌, ◌-◌, ◌≤◌, ◌<◌}
use native.Mathlib.Omega.{arith}
use lib.ListN.{length, drop, get_or}
use lib.Dec.{leb, eqb}
use borrow.Author.Tests.{lt-ltb, le-ltb, eq-eqb, ne_eqb}
use Rattle.texts.specs.Text.{bytes}
use Rattle.pnml_shape.specs.Drawing.{Arc}
use Rattle.pnml_shape.specs.Machine.{Format, byte, either, number, turn, spell, add_arc, after, pre_open, pre_from, pre_into, post_into, arc_format}
use Rattle.pnml_shape.specs.Machine.{step, stopped, finish, scan}
use Rattle.std.specs.Prelude.{Result, Ok, Err}
use Rattle.pnml_quick.specs.declared.Number.{Number}
use Rattle.pnml_scan.specs.declared.Left.{Left}
use Rattle.pnml_scan.specs.declared.ArcRead.{ArcRead}
use Rattle.pnml_scan.specs.Serving.{goes_on, goes_on_with, Part, Word, Value, Open, Letter, Sourced, pre_format, post_format, Ends, ArcAt}
use Rattle.pnml_scan.proofs.Scan.{taken, refused, at_end, word_firm}
use Rattle.pnml_scan.proofs.Parts.{head_format}

-- ---- the arc that follows another

module _ (P : ℕ) (a : Arc) where
  pub after_place : a.place + 1 < P → record { transition = a.transition; post = a.post; place = a.place + 1 } ≡ after P a
  unfolding after
  after_place h = simp (lt-ltb (a.place + 1) P h)

  pub after_post : P ≤ a.place + 1 → a.post ≡ true → record { transition = a.transition + 1; post = false; place = 0 } ≡ after P a
  unfolding after
  after_post h e = simp (le-ltb (a.place + 1) P h, e)

  pub after_pre : P ≤ a.place + 1 → a.post ≡ false → record { transition = a.transition; post = true; place = 0 } ≡ after P a
  unfolding after
  after_pre h e = simp (le-ltb (a.place + 1) P h, e)

-- ---- the lowest numbers

module _ (l : Arc) where
  pub from_zero : (T : ℕ) → l.transition + 1 < T → 0 ≡ pre_from T l
  unfolding pre_from
  from_zero T h = simp (lt-ltb (l.transition + 1) T h)

  pub from_place : (T : ℕ) → T ≤ l.transition + 1 → l.place ≡ pre_from T l
  unfolding pre_from
  from_place T h = simp (le-ltb (l.transition + 1) T h)

  pub into_same : (p : ℕ) → (not l.post && leb l.place p) ≡ true → l.transition ≡ pre_into l p
  unfolding pre_into
  into_same p e = sym (ap (λ (b : Bool). cond b l.transition (l.transition + 1)) e)

  pub into_next : (p : ℕ) → (not l.post && leb l.place p) ≡ false → l.transition + 1 ≡ pre_into l p
  unfolding pre_into
  into_next p e = sym (ap (λ (b : Bool). cond b l.transition (l.transition + 1)) e)

  pub out_place : (t : ℕ) → (l.post && eqb t l.transition) ≡ true → l.place ≡ post_into l t
  unfolding post_into
  out_place t e = sym (ap (λ (b : Bool). cond b l.place 0) e)

  pub out_zero : (t : ℕ) → (l.post && eqb t l.transition) ≡ false → 0 ≡ post_into l t
  unfolding post_into
  out_zero t e = sym (ap (λ (b : Bool). cond b l.place 0) e)

-- ---- the letter of the source

-- what a byte does: a place's letter, a transition's, another
abbrev choose : (first second : Bool) (F G : Format) → Option Format
choose x y F G = cond x (some F) (cond y (some G) none)

step_pre : (b : ℕ) (pre : Bool) (F G : Format) → (eqb b 112 && pre) ≡ true → step (either 112 pre F (byte 116 G)) b ≡ some F
unfolding step
step_pre b pre F G e = ap (λ (x : Bool). choose x (eqb b 116) F G) e

step_post : (b : ℕ) (pre : Bool) (F G : Format) → b ≡ 116 → step (either 112 pre F (byte 116 G)) b ≡ some G
unfolding step
step_post b pre F G e = simp (ne_eqb b 112 (λ h. omega arith), eq-eqb b 116 e)

step_other : (b : ℕ) (pre : Bool) (F G : Format) → (eqb b 112 && pre) ≡ false → (b ≡ 116 → ⊥) → step (either 112 pre F (byte 116 G)) b ≡ none
unfolding step
step_other b pre F G e h = simp (e, ne_eqb b 116 h)

module _ (t : List ℕ) (at : ℕ) (pre : Bool) where
  pub source_end : length t ≤ at → Sourced t at pre (Err (record { at = at }))
  unfolding finish
  source_end h = (refl, λ F G. at_end t at (either 112 pre F (byte 116 G)) h)

  pub source_post : at < length t → get_or t at 0 ≡ 116 → Sourced t at pre (Ok true)
  source_post h b =
      record { inside = h; same = λ F G. taken t at (either 112 pre F (byte 116 G)) G h (step_post (get_or t at 0) pre F G b) }

  pub source_pre : at < length t → (eqb (get_or t at 0) 112 && pre) ≡ true → Sourced t at pre (Ok false)
  source_pre h b =
      record { inside = h; same = λ F G. taken t at (either 112 pre F (byte 116 G)) F h (step_pre (get_or t at 0) pre F G b) }

  pub source_other : at < length t → (get_or t at 0 ≡ 116 → ⊥) → (eqb (get_or t at 0) 112 && pre) ≡ false
      → Sourced t at pre (Err (record { at = at }))
  source_other h n b = (refl, λ F G. refused t at (either 112 pre F (byte 116 G)) h (step_other (get_or t at 0) pre F G b n))

-- ---- the two numbers

-- a number, a word, a number that depends on the first, a word
unfoldable pub ends : (lo hi : ℕ) (word : List ℕ) (from : ℕ → ℕ) (most : ℕ) → (ℕ → ℕ → Format) → Format
ends lo hi word from most K = number lo hi (λ x. spell word (number (from x) most (λ y. spell (bytes "\"/>") (K x y))))

-- what follows the first number
unfoldable pub rest : (word : List ℕ) (from : ℕ → ℕ) (most : ℕ) → (ℕ → ℕ → Format) → ℕ → Format
rest word from most K x = spell word (number (from x) most (λ y. spell (bytes "\"/>") (K x y)))

-- the text leaves them at an offset
pub record Broken (t : List ℕ) (at lo hi : ℕ) (word : List ℕ) (from : ℕ → ℕ) (most : ℕ) (e : Left) : Type 0 where
  pub inside : e.at ≤ length t
  pub from_at : at ≤ e.at
  pub same : (K : ℕ → ℕ → Format) → scan (ends lo hi word from most K) at (drop at t) ≡ stopped e.at

-- or they end at one
pub record Both (t : List ℕ) (at lo hi : ℕ) (word : List ℕ) (from : ℕ → ℕ) (most k x y : ℕ) : Type 0 where
  pub inside : k ≤ length t
  pub from_at : at ≤ k
  pub first : x ≤ hi
  pub second : y ≤ most
  pub same : (K : ℕ → ℕ → Format) → scan (ends lo hi word from most K) at (drop at t) ≡ scan (K x y) k (drop k t)

module _ {t : List ℕ} {at : ℕ} (lo hi : ℕ) (word : List ℕ) (from : ℕ → ℕ) (most : ℕ) {low : ℕ} (e : low ≡ lo) (h : 0 < length word) where
  -- up to the first number
  begun : {r : Result Number Left} → Value t at low hi r → (K : ℕ → ℕ → Format)
      → scan (ends lo hi word from most K) at (drop at t) ≡ goes_on_with r (rest word from most K) t
  unfolding ends rest
  begun p K =
      ap (λ (n : ℕ). scan (number n hi (rest word from most K)) at (drop at t)) (sym e)
      ∙ p.same (rest word from most K) (λ v z. word_firm word _ z h)

  pub at_first : {x : Left} → Value t at low hi (Err x) → Broken t at lo hi word from most x
  at_first p = record { inside = p.inside; from_at = p.from; same = λ K. begun p K }

  module _ {x : Number} (p : Value t at low hi (Ok x)) where
    pub at_word : {f : Left} → Word t x.at word (Err f) → Broken t at lo hi word from most f
    unfolding rest
    at_word q = record { inside = q.inside; from_at = omega (arith, p.from, q.from); same = λ K. begun p K ∙ q.same _ }

    module _ {j into : ℕ} (q : Word t x.at word (Ok j)) (f : into ≡ from x.value) where
      -- up to the second
      further : {r : Result Number Left} → Value t j into most r → (K : ℕ → ℕ → Format)
          → scan (ends lo hi word from most K) at (drop at t) ≡ goes_on_with r (λ y. spell (bytes "\"/>") (K x.value y)) t
      unfolding rest
      further s K =
          begun p K
          ∙ q.same (number (from x.value) most (λ y. spell (bytes "\"/>") (K x.value y)))
          ∙ ap (λ (n : ℕ). scan (number n most (λ y. spell (bytes "\"/>") (K x.value y))) j (drop j t)) (sym f)
          ∙ s.same (λ y. spell (bytes "\"/>") (K x.value y)) (λ v z. word_firm (bytes "\"/>") (K x.value v) z (omega arith))

      pub at_second : {g : Left} → Value t j into most (Err g) → Broken t at lo hi word from most g
      at_second s = record { inside = s.inside; from_at = omega (arith, p.from, q.from, s.from); same = λ K. further s K }

      module _ {y : Number} (s : Value t j into most (Ok y)) where
        pub at_last : {g : Left} → Word t y.at (bytes "\"/>") (Err g) → Broken t at lo hi word from most g
        at_last u =
            record { inside = u.inside; from_at = omega (arith, p.from, q.from, s.from, u.from); same = λ K. further s K ∙ u.same _ }

        pub both : {k : ℕ} → Word t y.at (bytes "\"/>") (Ok k) → Both t at lo hi word from most k x.value y.value
        both u =
            record {
              inside = u.inside;
              from_at = omega (arith, p.from, q.from, s.from, u.from);
              first = p.most;
              second = s.most;
              same = λ K. further s K ∙ u.same (K x.value y.value);
            }

module _ {t : List ℕ} {at P T : ℕ} (l : Arc) where
  -- into a transition: the place is first
  pub pre_stops : {e : Left} → Broken t at (pre_from T l) (P - 1) (bytes "\" target=\"t") (pre_into l) (T - 1) e → Ends t at P T (pre_format P T l) (Err e)
  unfolding pre_format ends
  pre_stops b =
      record {
        inside = b.inside;
        from = b.from_at;
        named = tt;
        same = λ K. b.same (λ x y. K (record { transition = y; post = false; place = x }));
      }

  pub pre_ends_of : Open P T l → {k x y : ℕ} → Both t at (pre_from T l) (P - 1) (bytes "\" target=\"t") (pre_into l) (T - 1) k x y
      → Ends t at P T (pre_format P T l) (Ok (record { at = k; arc = record { transition = y; post = false; place = x } }))
  unfolding pre_format ends
  pre_ends_of o b =
      record {
        inside = b.inside;
        from = b.from_at;
        named = record { place = omega (arith, b.first, o.place); transition = omega (arith, b.second, o.transition) };
        same = λ K. b.same (λ x y. K (record { transition = y; post = false; place = x }));
      }

  -- out of a transition: the transition is first
  pub post_stops : {e : Left} → Broken t at l.transition (T - 1) (bytes "\" target=\"p") (post_into l) (P - 1) e → Ends t at P T (post_format P T l) (Err e)
  unfolding post_format ends
  post_stops b =
      record {
        inside = b.inside;
        from = b.from_at;
        named = tt;
        same = λ K. b.same (λ x y. K (record { transition = x; post = true; place = y }));
      }

  pub post_ends_of : Open P T l → {k x y : ℕ} → Both t at l.transition (T - 1) (bytes "\" target=\"p") (post_into l) (P - 1) k x y
      → Ends t at P T (post_format P T l) (Ok (record { at = k; arc = record { transition = x; post = true; place = y } }))
  unfolding post_format ends
  post_ends_of o b =
      record {
        inside = b.inside;
        from = b.from_at;
        named = record { place = omega (arith, b.second, o.place); transition = omega (arith, b.first, o.transition) };
        same = λ K. b.same (λ x y. K (record { transition = x; post = true; place = y }));
      }

-- ---- the arc

-- up to the letter of the source
unfoldable start : (n : ℕ) (pre : Bool) (F G : Format) → Format
start n pre F G = head_format (bytes "rc id=\"a") n (bytes "\" source=\"") (either 112 pre F (byte 116 G))

module _ (P T : ℕ) (l : Arc) {t : List ℕ} {at n : ℕ} where
  -- the arc's own number is any that equals the one that was read
  headed : {r : Result ℕ Left} → Part t at (head_format (bytes "rc id=\"a") n (bytes "\" source=\"")) r → (m : ℕ) → m ≡ n → (pre : Bool) (F G : Format)
      → scan (start m pre F G) at (drop at t) ≡ goes_on r (either 112 pre F (byte 116 G)) t
  unfolding start
  headed p m e pre F G = ap (λ (x : ℕ). scan (start x pre F G) at (drop at t)) e ∙ p.same (either 112 pre F (byte 116 G))

  pub arc_at_head : {e : Left} → Part t at (head_format (bytes "rc id=\"a") n (bytes "\" source=\"")) (Err e) → ArcAt t at n P T l (Err e)
  unfolding arc_format start head_format pre_format post_format
  arc_at_head p =
      record {
        inside = p.inside;
        from = p.from;
        named = tt;
        same = λ d f. headed p (length d.arcs) f (pre_open T l) (pre_format P T l (λ x. turn (add_arc d x))) (post_format P T l (λ x. turn (add_arc d x)));
      }

  module _ {k : ℕ} {pre : Bool} (p : Part t at (head_format (bytes "rc id=\"a") n (bytes "\" source=\"")) (Ok k)) (e : pre ≡ pre_open T l) where
    -- up to the letter
    lettered : (m : ℕ) → m ≡ n → (F G : Format) → scan (start m (pre_open T l) F G) at (drop at t) ≡ scan (either 112 pre F (byte 116 G)) k (drop k t)
    lettered m h F G = ap (λ (x : Bool). scan (start m x F G) at (drop at t)) (sym e) ∙ headed p m h pre F G

    pub arc_at_source : {f : Left} → Sourced t k pre (Err f) → ArcAt t at n P T l (Err f)
    unfolding arc_format start head_format pre_format post_format
    arc_at_source s =
        record {
          inside = omega (arith, p.inside, s.0);
          from = omega (arith, p.from, s.0);
          named = tt;
          same = λ d h.
              lettered (length d.arcs) h (pre_format P T l (λ x. turn (add_arc d x))) (post_format P T l (λ x. turn (add_arc d x)))
              ∙ s.1 _ _
              ∙ ap stopped (sym s.0);
        }

    module _ {post : Bool} (s : Letter t k pre post) {r : Result ArcRead Left} where
      pub arc_post : post ≡ true → Ends t (k + 1) P T (post_format P T l) r → ArcAt t at n P T l r
      unfolding arc_format start head_format pre_format post_format
      arc_post h w =
          record {
            inside = w.inside;
            from = omega (arith, p.from, w.from);
            named = w.named;
            same = λ d g.
                let K : Arc → Format = λ z. turn (add_arc d z) in
                lettered (length d.arcs) g (pre_format P T l K) (post_format P T l K)
                ∙ s.same (pre_format P T l K) (post_format P T l K)
                ∙ ap (λ (x : Bool). scan (cond x (post_format P T l K) (pre_format P T l K)) (k + 1) (drop (k + 1) t)) h
                ∙ w.same K;
          }

      pub arc_pre : post ≡ false → Ends t (k + 1) P T (pre_format P T l) r → ArcAt t at n P T l r
      unfolding arc_format start head_format pre_format post_format
      arc_pre h w =
          record {
            inside = w.inside;
            from = omega (arith, p.from, w.from);
            named = w.named;
            same = λ d g.
                let K : Arc → Format = λ z. turn (add_arc d z) in
                lettered (length d.arcs) g (pre_format P T l K) (post_format P T l K)
                ∙ s.same (pre_format P T l K) (post_format P T l K)
                ∙ ap (λ (x : Bool). scan (cond x (post_format P T l K) (pre_format P T l K)) (k + 1) (drop (k + 1) t)) h
                ∙ w.same K;
          }
