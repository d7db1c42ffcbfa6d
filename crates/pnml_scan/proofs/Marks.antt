-- The end of a transition, with or without the mark of an optional one. For any text. Assumes nothing.
use mathlib.Core.Path.{◌≡◌, refl, sym, ap, ◌∙◌, subst}
use mathlib.Core.Bool.{Bool, true, false, cond, ◌&&◌, false≢true}
use mathlib.Core.List.{List, ◌∷◌, ◌++◌}
use mathlib.Core.Option.{some}
use Prim.Native.Nat.{ℕ, ◌+◌, ◌≤◌, ◌<◌}
use native.Mathlib.Nat.{add-zero, add_assoc}
use native.Mathlib.Omega.{arith}
use lib.ListN.{length, length-append, drop, get_or, get_or-append}
use lib.Seq.{get_or-append-add}
use lib.Dec.{eqb, ltb, leb}
use borrow.Author.Tests.{eqb-true, eqb-false, eq-eqb, ne_eqb, leb-true, le-leb, lt-leb, ltb-true, ltb-false}
use Rattle.tables.proofs.Tests.{and_left, and_right, and_intro, failed}
use Rattle.texts.specs.Text.{bytes}
use Rattle.pnml_shape.specs.Shape.{white}
use Rattle.pnml_shape.specs.Drawing.{Drawing}
use Rattle.pnml_shape.specs.Machine.{Format, byte, either, space, spell, turn, add_transition, transition_format, step, stopped, finish, scan}
use Rattle.pnml_quick.specs.Serving.{There}
use Rattle.std.specs.Prelude.{Result, Ok, Err}
use Rattle.pnml_quick.specs.declared.Number.{Number}
use Rattle.pnml_scan.specs.declared.Left.{Left}
use Rattle.pnml_scan.specs.Serving.{Part, Skipped, Word, Value, mark_opens, mark_format, MarkRead, end_format, EndRead, TransitionRead}
use Rattle.pnml_scan.proofs.Scan.{taken, refused, at_end, alike, byte_taken, byte_other, passed_none, passed_all, space_keeps, space_over, word_firm, tag_of, there_word}
use Rattle.pnml_scan.proofs.Parts.{head_format, tags_format, front_format, fronted}

-- ---- the first two bytes

pub record Opening (t : List ℕ) (at : ℕ) : Type 0 where
  pub inside : at + 2 ≤ length t
  pub first : get_or t at 0 ≡ 60
  pub second : get_or t (at + 1) 0 ≡ 116

pub short : (t : List ℕ) (at : ℕ) → length t < at + 2 → false ≡ mark_opens t at
unfolding mark_opens
short t at h = simp (lt-leb (at + 2) (length t) h)

pub by_bytes : (t : List ℕ) (at : ℕ) → at + 2 ≤ length t → (eqb (get_or t at 0) 60 && eqb (get_or t (at + 1) 0) 116) ≡ mark_opens t at
unfolding mark_opens
by_bytes t at h = simp (le-leb (at + 2) (length t) h)

pub opening : (t : List ℕ) (at : ℕ) → mark_opens t at ≡ true → Opening t at
unfolding mark_opens
opening t at e =
    let b = and_right (leb (at + 2) (length t)) (eqb (get_or t at 0) 60 && eqb (get_or t (at + 1) 0) 116) e in
    record {
      inside = leb-true (at + 2) (length t) (and_left (leb (at + 2) (length t)) (eqb (get_or t at 0) 60 && eqb (get_or t (at + 1) 0) 116) e);
      first = eqb-true (get_or t at 0) 60 (and_left (eqb (get_or t at 0) 60) (eqb (get_or t (at + 1) 0) 116) b);
      second = eqb-true (get_or t (at + 1) 0) 116 (and_right (eqb (get_or t at 0) 60) (eqb (get_or t (at + 1) 0) 116) b);
    }

no_opening : (t : List ℕ) (at : ℕ) → mark_opens t at ≡ false → Opening t at → ⊥
unfolding mark_opens
no_opening t at e o =
    false≢true
    (sym e
    ∙ and_intro (leb (at + 2) (length t)) (eqb (get_or t at 0) 60 && eqb (get_or t (at + 1) 0) 116) (le-leb (at + 2) (length t) o.inside)
    (and_intro (eqb (get_or t at 0) 60) (eqb (get_or t (at + 1) 0) 116) (eq-eqb (get_or t at 0) 60 o.first) (eq-eqb (get_or t (at + 1) 0) 116 o.second)))

-- with them the mark is read, without them the end
marked : (t : List ℕ) (at : ℕ) (F G : Format) → Opening t at
    → scan (byte 60 (either 116 true F G)) at (drop at t) ≡ scan F (at + 2) (drop (at + 2) t)
unfolding step
marked t at F G o =
    taken t at (byte 60 (either 116 true F G)) (either 116 true F G) (omega (arith, o.inside)) (byte_taken (get_or t at 0) 60 (either 116 true F G) o.first)
    ∙ taken t (at + 1) (either 116 true F G) F (omega (arith, o.inside))
    (ap (λ (x : Bool). cond (x && true) (some F) (step G (get_or t (at + 1) 0))) (eq-eqb (get_or t (at + 1) 0) 116 o.second))
    ∙ ap (λ (n : ℕ). scan F n (drop n t)) (add_assoc at 1 1)

unmarked : (t : List ℕ) (at : ℕ) (F G : Format) → (Opening t at → ⊥) → ((k : ℕ) → finish G k ≡ stopped k)
    → scan (byte 60 (either 116 true F G)) at (drop at t) ≡ scan (byte 60 G) at (drop at t)
unfolding step finish
unmarked t at F G n f = by (ltb at (length t)) refl
  where
    on : (b : Bool) → at < length t → eqb (get_or t at 0) 60 ≡ b → scan (byte 60 (either 116 true F G)) at (drop at t) ≡ scan (byte 60 G) at (drop at t)
    on true h e =
        let first = eqb-true (get_or t at 0) 60 e in
        taken t at (byte 60 (either 116 true F G)) (either 116 true F G) h (byte_taken (get_or t at 0) 60 (either 116 true F G) first)
        ∙ alike t (at + 1) (either 116 true F G) G
        (λ k. ap (λ (x : Bool). cond (x && true) (some F) (step G (get_or t (at + 1) 0)))
        (ne_eqb (get_or t (at + 1) 0) 116 (λ s. n (record { inside = omega arith; first = first; second = s }))))
        (λ k. sym (f (at + 1)))
        ∙ sym (taken t at (byte 60 G) G h (byte_taken (get_or t at 0) 60 G first))
    on false h e =
        let other = eqb-false (get_or t at 0) 60 e in
        refused t at (byte 60 (either 116 true F G)) h (byte_other (get_or t at 0) 60 (either 116 true F G) other)
        ∙ sym (refused t at (byte 60 G) h (byte_other (get_or t at 0) 60 G other))

    by : (b : Bool) → ltb at (length t) ≡ b → scan (byte 60 (either 116 true F G)) at (drop at t) ≡ scan (byte 60 G) at (drop at t)
    by true e = on (eqb (get_or t at 0) 60) (ltb-true at (length t) e) refl
    by false e =
        let h = ltb-false at (length t) e in at_end t at (byte 60 (either 116 true F G)) h ∙ sym (at_end t at (byte 60 G) h)

-- ---- the mark

-- white space before a format that is not at its end
space_next : {t : List ℕ} {at k : ℕ} → Skipped t at k → (F : Format) → finish F k ≡ stopped k
    → scan (space F) at (drop at t) ≡ scan F k (drop k t)
space_next {t} {at} {k} s F e = s.same (space F) (space_keeps F) ∙ space_over t k F s.stops e

pub mark_none : (t : List ℕ) (at action : ℕ) → mark_opens t at ≡ false → at ≤ length t → action ≤ 65535
    → MarkRead t at action (Ok (record { at = at; value = action }))
unfolding mark_format spell
mark_none t at action n h small =
    record {
      inside = h;
      from = omega arith;
      most = omega arith;
      same = λ K.
          unmarked t at _ (spell (bytes "/transition>") (K action)) (no_opening t at n)
          (λ k. word_firm (bytes "/transition>") (K action) k (omega arith));
    }

pub mark_gone : {t : List ℕ} {at action : ℕ} {e : Left} → mark_opens t at ≡ true
    → Word t (at + 2) (bytes "oolspecific tool=\"desk\" version=\"1\"/>") (Err e) → MarkRead t at action (Err e)
unfolding mark_format
mark_gone {t} {at} {action} n p =
    record {
      inside = p.inside;
      from = omega (arith, p.from);
      most = tt;
      same = λ K. marked t at _ (spell (bytes "/transition>") (K action)) (opening t at n) ∙ p.same _;
    }

pub mark_read : {t : List ℕ} {at action i k : ℕ} → mark_opens t at ≡ true → action ≤ 65535
    → Word t (at + 2) (bytes "oolspecific tool=\"desk\" version=\"1\"/>") (Ok i) → Skipped t i k
    → MarkRead t at action (Ok (record { at = k; value = action + 65536 }))
unfolding mark_format
mark_read {t} {at} {action} {k = k} n small p s =
    record {
      inside = s.inside;
      from = omega (arith, p.from, s.from);
      most = omega arith;
      same = λ K.
          marked t at _ (spell (bytes "/transition>") (K action)) (opening t at n)
          ∙ p.same _
          ∙ space_next s (spell (bytes "</transition>") (K (action + 65536))) (word_firm (bytes "</transition>") (K (action + 65536)) k (omega arith));
    }

-- ---- the end

-- up to the mark
to_mark : {t : List ℕ} {at i j k l : ℕ} → Word t at (bytes "</text>") (Ok i) → Skipped t i j → Word t j (bytes "</name>") (Ok k) → Skipped t k l
    → (a : ℕ) (K : ℕ → Format) → scan (end_format a K) at (drop at t) ≡ scan (mark_format a K) l (drop l t)
unfolding end_format mark_format finish
to_mark p s q u a K = p.same _ ∙ (tag_of (bytes "</name>") (omega arith) s q).same _ ∙ space_next u (mark_format a K) refl

module _ {t : List ℕ} {at action : ℕ} where
  pub end_at_text : {e : Left} → Word t at (bytes "</text>") (Err e) → EndRead t at action (Err e)
  unfolding end_format
  end_at_text p = record { inside = p.inside; from = p.from; most = tt; same = λ K. p.same _ }

  pub end_at_name : {i j : ℕ} {e : Left} → Word t at (bytes "</text>") (Ok i) → Skipped t i j → Word t j (bytes "</name>") (Err e)
      → EndRead t at action (Err e)
  unfolding end_format
  end_at_name p s q =
      let x = tag_of _ (omega arith) s q in
      record { inside = q.inside; from = omega (arith, p.from, x.from); most = tt; same = λ K. p.same _ ∙ x.same _ }

  module _ {i j k l : ℕ} (p : Word t at (bytes "</text>") (Ok i)) (s : Skipped t i j) (q : Word t j (bytes "</name>") (Ok k)) (u : Skipped t k l) where
    pub end_at_mark : {e : Left} → MarkRead t l action (Err e) → EndRead t at action (Err e)
    end_at_mark m =
        record {
          inside = m.inside;
          from = omega (arith, p.from, s.from, q.from, u.from, m.from);
          most = tt;
          same = λ K. to_mark p s q u action K ∙ m.same K;
        }

    pub end_at_tag : {n : Number} {e : Left} → MarkRead t l action (Ok n) → Word t n.at (bytes "</transition>") (Err e) → EndRead t at action (Err e)
    end_at_tag m w =
        record {
          inside = w.inside;
          from = omega (arith, p.from, s.from, q.from, u.from, m.from, w.from);
          most = tt;
          same = λ K. to_mark p s q u action K ∙ m.same K ∙ w.same _;
        }

    pub end_tags : {n : Number} {r : ℕ} → MarkRead t l action (Ok n) → Word t n.at (bytes "</transition>") (Ok r)
        → EndRead t at action (Ok (record { at = r; value = n.value }))
    end_tags {n = n} m w =
        record {
          inside = w.inside;
          from = omega (arith, p.from, s.from, q.from, u.from, m.from, w.from);
          most = m.most;
          same = λ K. to_mark p s q u action K ∙ m.same K ∙ w.same (K n.value);
        }

-- a word that is there, in two
there_split : (t : List ℕ) (at : ℕ) (u v : List ℕ) → There t at (u ++ v) → There t at u × There t (at + length u) v
there_split t at u v h =
    let long : length (u ++ v) ≡ length u + length v = length-append u v in (
      record {
        inside = omega (arith, h.inside);
        same = record { each = λ j a b. h.same.each j a (omega arith) ∙ get_or-append u v 0 j b };
      },
      record {
        inside = omega (arith, h.inside);
        same = record {
          each = λ j a b.
              ap (λ (k : ℕ). get_or t k 0) (add_assoc at (length u) j) ∙ h.same.each (length u + j) (omega arith) (omega arith) ∙ get_or-append-add u v j 0;
        };
      },
    )

-- a tag that is there has no white space before it
unspaced : (t : List ℕ) (at : ℕ) (w : List ℕ) → There t at (60 ∷ w) → Skipped t at at
unfolding white
unspaced t at w h =
    passed_all t at at (passed_none t at (omega (arith, h.inside)))
    (λ l. ap (λ (k : ℕ). white (get_or t k 0)) (sym (add-zero at)) ∙ ap white (h.same.each 0 (omega arith) (omega arith)))

-- nor a mark
mark_there : (t : List ℕ) (at action : ℕ) → There t at (bytes "</transition>") → action ≤ 65535
    → MarkRead t at action (Ok (record { at = at; value = action }))
mark_there t at action h small =
    mark_none t at action
    (failed (mark_opens t at) (λ e. let z : ◌≡◌ {A = ℕ} 116 47 = sym (opening t at e).second ∙ h.same.each 1 (omega arith) (omega arith) in omega arith))
    (omega (arith, h.inside)) small

pub end_there : (t : List ℕ) (at action : ℕ) → There t at (bytes "</text></name></transition>") → action ≤ 65535
    → EndRead t at action (Ok (record { at = at + 27; value = action }))
end_there t at action h small =
    let (x, more) = there_split t at (bytes "</text>") (bytes "</name></transition>") h in
    let (y, z) = there_split t (at + 7) (bytes "</name>") (bytes "</transition>") more in
    let k = at + 7 + 7 in
    let far : at + 7 + 7 + 13 ≡ at + 27 = omega arith in
    subst (λ (r : ℕ). EndRead t at action (Ok (record { at = r; value = action }))) far
    (end_tags (there_word t at (bytes "</text>") x) (unspaced t (at + 7) (bytes "/name>") y) (there_word t (at + 7) (bytes "</name>") y)
    (unspaced t k (bytes "/transition>") z) (mark_there t k action z small) (there_word t k (bytes "</transition>") z))

-- ---- the whole transition

abbrev ending : Drawing → ℕ → Format
ending x a = end_format a (λ y. turn (add_transition x y))

module _ {t : List ℕ} {at n : ℕ} where
  pub transition_at_front : {e : Left} → Part t at (front_format (bytes "ransition id=\"t") n (bytes "<name>")) (Err e) → TransitionRead t at n (Err e)
  unfolding transition_format front_format head_format tags_format
  transition_at_front p =
      record {
        inside = p.inside;
        from = p.from;
        most = tt;
        same = λ x h. fronted (bytes "ransition id=\"t") (bytes "<name>") p (length x.actions) h _;
      }

  module _ {k : ℕ} (p : Part t at (front_format (bytes "ransition id=\"t") n (bytes "<name>")) (Ok k)) where
    pub transition_at_action : {e : Left} → Value t k 0 65535 (Err e) → TransitionRead t at n (Err e)
    unfolding transition_format front_format head_format tags_format end_format mark_format
    transition_at_action q =
        record {
          inside = q.inside;
          from = omega (arith, p.from, q.from);
          most = tt;
          same = λ x h.
              fronted (bytes "ransition id=\"t") (bytes "<name>") p (length x.actions) h _
              ∙ q.same (ending x) (λ y z. word_firm (bytes "</text>") _ z (omega arith));
        }

    pub transition_of : {a : Number} {r : Result Number Left} → Value t k 0 65535 (Ok a) → EndRead t a.at a.value r → TransitionRead t at n r
    unfolding transition_format front_format head_format tags_format end_format mark_format
    transition_of q e =
        record {
          inside = e.inside;
          from = omega (arith, p.from, q.from, e.from);
          most = e.most;
          same = λ x h.
              fronted (bytes "ransition id=\"t") (bytes "<name>") p (length x.actions) h _
              ∙ q.same (ending x) (λ y z. word_firm (bytes "</text>") _ z (omega arith))
              ∙ e.same (λ y. turn (add_transition x y));
        }
