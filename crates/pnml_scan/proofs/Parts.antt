-- Parts of a text one after another. For any text. Assumes nothing.
use mathlib.Core.Path.{◌≡◌, ap, ◌∙◌}
use mathlib.Core.Bool.{Bool, false, cond}
use mathlib.Core.List.{List}
use mathlib.Core.Option.{some, none}
use Prim.Native.Nat.{ℕ, ◌≤◌, ◌<◌}
use native.Mathlib.Omega.{arith}
use lib.ListN.{length, drop, get_or}
use Rattle.texts.specs.Text.{bytes}
use Rattle.pnml_shape.specs.Shape.{white}
use Rattle.pnml_shape.specs.Drawing.{Drawing}
use Rattle.pnml_shape.specs.Machine.{Format, ends, spell, space, number, turn, add_place}
use Rattle.pnml_shape.specs.Machine.{place_format, closing, start, step, finish, scan}
use Rattle.std.specs.Prelude.{Result, Ok, Err}
use Rattle.pnml_quick.specs.declared.Number.{Number}
use Rattle.pnml_scan.specs.declared.Left.{Left}
use Rattle.pnml_scan.specs.Serving.{Part, goes_on, Word, Skipped, Value, Ended, Opened, Closed, PlaceRead}
use Rattle.pnml_scan.proofs.Scan.{refused, at_end, word_firm, ends_keeps, tag_of}

-- ---- the end of the text

ends_other : (d : Drawing) (b : ℕ) → white b ≡ false → step (ends d) b ≡ none
unfolding step
ends_other d b w = ap (λ (x : Bool). cond x (some (ends d)) none) w

pub end_there : {t : List ℕ} {at r : ℕ} → Skipped t at r → length t ≤ r → Ended t at (Ok r)
unfolding finish
end_there {t} {at} {r} s h =
    record {
      inside = s.inside;
      from = s.from;
      same = λ d. s.same (ends d) (ends_keeps d) ∙ at_end t r (ends d) h;
    }

pub end_other : {t : List ℕ} {at r : ℕ} → Skipped t at r → r < length t → Ended t at (Err (record { at = r }))
end_other {t} {at} {r} s h =
    record {
      inside = s.inside;
      from = s.from;
      same = λ d. s.same (ends d) (ends_keeps d) ∙ refused t r (ends d) h (ends_other d (get_or t r 0) (s.stops h));
    }

-- ---- the frame

module _ {t : List ℕ} where
  pub opening_at_pnml : {e : Left} → Word t 0 (bytes "<pnml xmlns=\"http://www.pnml.org/version-2009/grammar/pnml\">") (Err e) → Opened t (Err e)
  unfolding start
  opening_at_pnml p = record { inside = p.inside; same = p.same _ }

  pub opening_at_net : {i j : ℕ} {e : Left} → Word t 0 (bytes "<pnml xmlns=\"http://www.pnml.org/version-2009/grammar/pnml\">") (Ok i)
      → Skipped t i j → Word t j (bytes "<net id=\"n\" type=\"http://www.pnml.org/version-2009/grammar/ptnet\">") (Err e) → Opened t (Err e)
  unfolding start
  opening_at_net p s q = record { inside = q.inside; same = p.same _ ∙ (tag_of _ (omega arith) s q).same _ }

  pub opening_of : {i j k l : ℕ} {r : Result ℕ Left} → Word t 0 (bytes "<pnml xmlns=\"http://www.pnml.org/version-2009/grammar/pnml\">") (Ok i)
      → Skipped t i j → Word t j (bytes "<net id=\"n\" type=\"http://www.pnml.org/version-2009/grammar/ptnet\">") (Ok k)
      → Skipped t k l → Word t l (bytes "<page id=\"g\">") r → Opened t r
  unfolding start
  opening_of p s q u r =
      record { inside = r.inside; same = p.same _ ∙ (tag_of _ (omega arith) s q).same _ ∙ (tag_of _ (omega arith) u r).same _ }

-- all but the end of the text
unfoldable pub closing_format : Format → Format
closing_format F = spell (bytes "page>") (space (spell (bytes "</net>") (space (spell (bytes "</pnml>") F))))

module _ {t : List ℕ} {at : ℕ} where
  pub closing_at_page : {e : Left} → Word t at (bytes "page>") (Err e) → Part t at closing_format (Err e)
  unfolding closing_format
  closing_at_page p = record { inside = p.inside; from = p.from; same = λ F. p.same _ }

  pub closing_at_net : {i j : ℕ} {e : Left} → Word t at (bytes "page>") (Ok i) → Skipped t i j → Word t j (bytes "</net>") (Err e)
      → Part t at closing_format (Err e)
  unfolding closing_format
  closing_at_net p s q =
      let x = tag_of _ (omega arith) s q in
      record { inside = q.inside; from = omega (arith, p.from, x.from); same = λ F. p.same _ ∙ x.same _ }

  pub closing_at_pnml : {i j k l : ℕ} {r : Result ℕ Left} → Word t at (bytes "page>") (Ok i) → Skipped t i j → Word t j (bytes "</net>") (Ok k)
      → Skipped t k l → Word t l (bytes "</pnml>") r → Part t at closing_format r
  unfolding closing_format
  closing_at_pnml p s q u r =
      let x = tag_of _ (omega arith) s q in
      let y = tag_of _ (omega arith) u r in
      record { inside = r.inside; from = omega (arith, p.from, x.from, y.from); same = λ F. p.same _ ∙ x.same _ ∙ y.same _ }

  pub closing_stops : {e : Left} → Part t at closing_format (Err e) → Closed t at (Err e)
  unfolding closing closing_format
  closing_stops p = record { inside = p.inside; from = p.from; same = λ d. p.same (ends d) }

  pub closing_of : {k : ℕ} {r : Result ℕ Left} → Part t at closing_format (Ok k) → Ended t k r → Closed t at r
  unfolding closing closing_format
  closing_of p q =
      record { inside = q.inside; from = omega (arith, p.from, q.from); same = λ d. p.same (ends d) ∙ q.same d }

-- ---- elements

-- the start of an element with its number
unfoldable pub head_format : (word : List ℕ) (n : ℕ) (last : List ℕ) → Format → Format
head_format word n last F = spell word (number n n (λ i. spell last F))

-- two tags
unfoldable pub tags_format : (first second : List ℕ) → Format → Format
tags_format first second F = space (spell first (space (spell second F)))

-- all up to the number in an element's text
unfoldable pub front_format : (word : List ℕ) (n : ℕ) (opens : List ℕ) → Format → Format
front_format word n opens F = head_format word n (bytes "\">") (tags_format opens (bytes "<text>") F)

module _ {t : List ℕ} {at : ℕ} where
  pub head_at_name : (w : List ℕ) (n : ℕ) (v : List ℕ) {e : Left} → Word t at w (Err e) → Part t at (head_format w n v) (Err e)
  unfolding head_format
  head_at_name w n v p = record { inside = p.inside; from = p.from; same = λ F. p.same _ }

  pub head_at_index : (w v : List ℕ) {n i : ℕ} {e : Left} → 0 < length v → Word t at w (Ok i) → Value t i n n (Err e) → Part t at (head_format w n v) (Err e)
  unfolding head_format
  head_at_index w v h p q =
      record {
        inside = q.inside;
        from = omega (arith, p.from, q.from);
        same = λ F. p.same _ ∙ q.same (λ i. spell v F) (λ x a. word_firm v F a h);
      }

  pub head_of : (w v : List ℕ) {n i : ℕ} {x : Number} {r : Result ℕ Left} → 0 < length v → Word t at w (Ok i) → Value t i n n (Ok x) → Word t x.at v r
      → Part t at (head_format w n v) r
  unfolding head_format
  head_of w v h p q u =
      record {
        inside = u.inside;
        from = omega (arith, p.from, q.from, u.from);
        same = λ F. p.same _ ∙ q.same (λ i. spell v F) (λ x a. word_firm v F a h) ∙ u.same F;
      }

  pub tags_at_first : (v w : List ℕ) {i : ℕ} {e : Left} → 0 < length v → Skipped t at i → Word t i v (Err e) → Part t at (tags_format v w) (Err e)
  unfolding tags_format
  tags_at_first v w h s p = let x = tag_of _ h s p in record { inside = x.inside; from = x.from; same = λ F. x.same _ }

  pub tags_of : (v w : List ℕ) {i j k : ℕ} {r : Result ℕ Left} → 0 < length v → 0 < length w → Skipped t at i → Word t i v (Ok j)
      → Skipped t j k → Word t k w r → Part t at (tags_format v w) r
  unfolding tags_format
  tags_of v w g h s p u q =
      let x = tag_of _ g s p in
      let y = tag_of _ h u q in
      record { inside = y.inside; from = omega (arith, x.from, y.from); same = λ F. x.same _ ∙ y.same F }

  pub front_at_head : (w : List ℕ) (n : ℕ) (o : List ℕ) {e : Left} → Part t at (head_format w n (bytes "\">")) (Err e) → Part t at (front_format w n o) (Err e)
  unfolding front_format
  front_at_head w n o p = record { inside = p.inside; from = p.from; same = λ F. p.same _ }

  pub front_of : (w : List ℕ) (n : ℕ) (o : List ℕ) {k : ℕ} {r : Result ℕ Left} → Part t at (head_format w n (bytes "\">")) (Ok k)
      → Part t k (tags_format o (bytes "<text>")) r → Part t at (front_format w n o) r
  unfolding front_format
  front_of w n o p q = record { inside = q.inside; from = omega (arith, p.from, q.from); same = λ F. p.same _ ∙ q.same F }

-- ---- places

-- what follows a place's mark
unfoldable pub back_format : Format → Format
back_format F = spell (bytes "</text>") (tags_format (bytes "</initialMarking>") (bytes "</place>") F)

module _ {t : List ℕ} {at : ℕ} where
  pub back_at_text : {e : Left} → Word t at (bytes "</text>") (Err e) → Part t at back_format (Err e)
  unfolding back_format
  back_at_text p = record { inside = p.inside; from = p.from; same = λ F. p.same _ }

  pub back_of : {k : ℕ} {r : Result ℕ Left} → Word t at (bytes "</text>") (Ok k)
      → Part t k (tags_format (bytes "</initialMarking>") (bytes "</place>")) r → Part t at back_format r
  unfolding back_format
  back_of p q = record { inside = q.inside; from = omega (arith, p.from, q.from); same = λ F. p.same _ ∙ q.same F }

  -- the place's own number is any that equals the one that was read
  pub fronted : {n : ℕ} (w o : List ℕ) {r : Result ℕ Left} → Part t at (front_format w n o) r → (m : ℕ) → m ≡ n → (F : Format)
      → scan (front_format w m o F) at (drop at t) ≡ goes_on r F t
  fronted w o p m e F = ap (λ (x : ℕ). scan (front_format w x o F) at (drop at t)) e ∙ p.same F

  pub place_at_front : {n : ℕ} {e : Left} → Part t at (front_format (bytes "lace id=\"p") n (bytes "<initialMarking>")) (Err e) → PlaceRead t at n (Err e)
  unfolding place_format front_format head_format tags_format
  place_at_front p =
      record { inside = p.inside; from = p.from; most = tt; same = λ d e. fronted (bytes "lace id=\"p") (bytes "<initialMarking>") p (length d.marks) e _ }

  pub place_at_mark : {n k : ℕ} {e : Left} → Part t at (front_format (bytes "lace id=\"p") n (bytes "<initialMarking>")) (Ok k)
      → Value t k 0 1 (Err e) → PlaceRead t at n (Err e)
  unfolding place_format front_format head_format tags_format
  place_at_mark p q =
      record {
        inside = q.inside;
        from = omega (arith, p.from, q.from);
        most = tt;
        same = λ d e. fronted (bytes "lace id=\"p") (bytes "<initialMarking>") p (length d.marks) e _ ∙ q.same _ (λ v a. word_firm (bytes "</text>") _ a (omega arith));
      }

  pub place_at_back : {n k : ℕ} {x : Number} {e : Left} → Part t at (front_format (bytes "lace id=\"p") n (bytes "<initialMarking>")) (Ok k)
      → Value t k 0 1 (Ok x) → Part t x.at back_format (Err e) → PlaceRead t at n (Err e)
  unfolding place_format front_format head_format tags_format back_format
  place_at_back p q u =
      record {
        inside = u.inside;
        from = omega (arith, p.from, q.from, u.from);
        most = tt;
        same = λ d e.
            fronted (bytes "lace id=\"p") (bytes "<initialMarking>") p (length d.marks) e _
            ∙ q.same (λ m. back_format (turn (add_place d m))) (λ v a. word_firm (bytes "</text>") _ a (omega arith))
            ∙ u.same _;
      }

  pub place_of : {n k l : ℕ} {x : Number} → Part t at (front_format (bytes "lace id=\"p") n (bytes "<initialMarking>")) (Ok k)
      → Value t k 0 1 (Ok x) → Part t x.at back_format (Ok l) → PlaceRead t at n (Ok (record { at = l; value = x.value }))
  unfolding place_format front_format head_format tags_format back_format
  place_of {x = x} p q u =
      record {
        inside = u.inside;
        from = omega (arith, p.from, q.from, u.from);
        most = q.most;
        same = λ d e.
            fronted (bytes "lace id=\"p") (bytes "<initialMarking>") p (length d.marks) e _
            ∙ q.same (λ m. back_format (turn (add_place d m))) (λ v a. word_firm (bytes "</text>") _ a (omega arith))
            ∙ u.same (turn (add_place d x.value));
      }
