-- Turns from what the parts of the text say. Assumes nothing.
use mathlib.Core.Path.{◌≡◌}
use mathlib.Core.List.{List}
use Prim.Native.Nat.{ℕ}
use Rattle.std.specs.Prelude.{Ok, Err}
use Rattle.pnml_shape.specs.Drawing.{Arc}
use Rattle.pnml_shape.specs.Machine.{place_format, transition_format, arc_format, closing}
use Rattle.pnml_scan.specs.declared.ArcRead.{ArcRead}
use Rattle.pnml_scan.specs.declared.Left.{Left}
use Rattle.pnml_scan.specs.Serving.{Number, PlaceRead, TransitionRead, ArcAt, Closed}
use Rattle.pnml_turn.specs.Serving.{turned, Sane, Alone, Seen}
use Rattle.pnml_turn.specs.declared.Turn.TheVariants.{Place, Transition, Join, End}

-- ---- a place

module _ (t : List ℕ) (at P : ℕ) where
  pub place_seen : (n : Number) → PlaceRead t at P (Ok n) → (T A : ℕ) (l : Arc) → T ≡ 0 → Seen t at at P T A l place_format (Ok (Place n))
  unfolding Sane Alone turned
  place_seen n h T A l z = record { sane = (h.from, h.inside, h.most); alone = z; same = λ d f. h.same d f.places }

  pub place_stops : (e : Left) → PlaceRead t at P (Err e) → (T A : ℕ) (l : Arc) → T ≡ 0 → Seen t at at P T A l place_format (Err e)
  unfolding Sane Alone turned
  place_stops e h T A l z = record { sane = tt; alone = tt; same = λ d f. h.same d f.places }

-- ---- a transition

module _ (t : List ℕ) (at T : ℕ) where
  pub transition_seen : (n : Number) → TransitionRead t at T (Ok n) → (P A : ℕ) (l : Arc) → Seen t at at P T A l transition_format (Ok (Transition n))
  unfolding Sane Alone turned
  transition_seen n h P A l = record { sane = (h.from, h.inside, h.most); alone = tt; same = λ d f. h.same d f.transitions }

  pub transition_stops : (e : Left) → TransitionRead t at T (Err e) → (P A : ℕ) (l : Arc) → Seen t at at P T A l transition_format (Err e)
  unfolding Sane Alone turned
  transition_stops e h P A l = record { sane = tt; alone = tt; same = λ d f. h.same d f.transitions }

-- ---- an arc

module _ (t : List ℕ) (at A P T : ℕ) (l : Arc) where
  pub arc_seen : (a : ArcRead) → ArcAt t at A P T l (Ok a) → Seen t at at P T A l (λ d. arc_format d P T l) (Ok (Join a))
  unfolding Sane Alone turned
  arc_seen a h =
      record { sane = (h.from, h.inside, h.named.place, h.named.transition); alone = tt; same = λ d f. h.same d f.arcs }

  pub arc_stops : (e : Left) → ArcAt t at A P T l (Err e) → Seen t at at P T A l (λ d. arc_format d P T l) (Err e)
  unfolding Sane Alone turned
  arc_stops e h = record { sane = tt; alone = tt; same = λ d f. h.same d f.arcs }

-- ---- the end

module _ (t : List ℕ) (at : ℕ) where
  pub end_seen : (k : ℕ) → Closed t at (Ok k) → (P T A : ℕ) (l : Arc) → Seen t at at P T A l closing (Ok End)
  unfolding Sane Alone turned
  end_seen k h P T A l = record { sane = tt; alone = tt; same = λ d f. h.same d }

  pub end_stops : (e : Left) → Closed t at (Err e) → (P T A : ℕ) (l : Arc) → Seen t at at P T A l closing (Err e)
  unfolding Sane Alone turned
  end_stops e h P T A l = record { sane = tt; alone = tt; same = λ d f. h.same d }
