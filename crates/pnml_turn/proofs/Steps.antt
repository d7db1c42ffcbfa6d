-- The state after a turn. Assumes nothing.
use mathlib.Core.Path.{◌≡◌, refl, sym, ap, ◌∙◌, subst}
use mathlib.Core.List.{List, [], ◌∷◌}
use Prim.Native.Nat.{ℕ, suc, ◌+◌, ◌≤◌, ◌<◌}
use native.Mathlib.Numerals.{add-one}
use native.Mathlib.Omega.{arith}
use lib.ListN.{length}
use Rattle.pnml_shape.specs.Drawing.{Arc, Drawing}
use Rattle.pnml_shape.specs.Machine.{add_place, add_transition, add_arc, after, least, turn}
use Rattle.std.specs.Prelude.{Result, Ok, Err}
use Rattle.pnml_scan.specs.declared.ArcRead.{ArcRead}
use Rattle.pnml_scan.specs.declared.Left.{Left}
use Rattle.pnml_scan.specs.Serving.{Number, arc_of}
use Rattle.pnml_state.specs.Serving.{Holds, marked, noted}
use Rattle.pnml_state.proofs.State.{holds_place, holds_transition, holds_arc}
use Rattle.pnml_turn.specs.declared.Turn.{Turn}
use Rattle.pnml_turn.specs.declared.Turn.TheVariants.{Place, Transition, Join, End}
use Rattle.pnml_turn.specs.declared.State.{State}
use Rattle.pnml_turn.specs.declared.Reading.{Reading}
use Rattle.pnml_state.specs.declared.Entries.{Entries}
use Rattle.pnml_turn.specs.Serving.{turned, Sane, Alone, Fits, Seen, Put, Read, Ahead, Further, ReadAll, ReadPart, placed_state, transition_state, reading_of}

-- with no arc the number of places does not matter to the least arc
least_any : (P Q : ℕ) (l : List Arc) → length l ≡ 0 → least P l ≡ least Q l
unfolding least
least_any P Q [] e = refl
least_any P Q (a ∷ l) e = absurd (omega arith)

-- the counts and bounds with one element more
fits_place : (d : Drawing) (P T A : ℕ) (l : Arc) (m : ℕ) → Fits d P T A l → A ≡ 0 → Fits (add_place d m) (P + 1) T A l
fits_place d P T A l m f z =
    record {
      places = ap suc f.places ∙ sym (add-one P);
      transitions = f.transitions;
      arcs = f.arcs;
      first = least_any (P + 1) P d.arcs (f.arcs ∙ z) ∙ f.first;
    }

fits_transition : (d : Drawing) (P T A : ℕ) (l : Arc) (a : ℕ) → Fits d P T A l → Fits (add_transition d a) P (T + 1) A l
fits_transition d P T A l a f =
    record { places = f.places; transitions = ap suc f.transitions ∙ sym (add-one T); arcs = f.arcs; first = f.first }

fits_arc : (d : Drawing) (P T A : ℕ) (l a : Arc) → Fits d P T A l → Fits (add_arc d a) P T (A + 1) (after P a)
unfolding least
fits_arc d P T A l a f = record { places = f.places; transitions = f.transitions; arcs = ap suc f.arcs ∙ sym (add-one A); first = refl }

module _ (t : List ℕ) (s : State) (pre post action : List ℕ) where
  -- a place
  pub place_moved : (n : Number) → Ahead t s (Ok (Place n)) pre post action → (v : ℕ) → v ≡ marked s.marking s.places n.value → (r : State)
      → r ≡ placed_state s v n.at → Further t s r pre post action
  unfolding Sane Alone turned
  place_moved n h v e r q =
      subst (λ x. Further t s x pre post action) (sym q)
      (record {
        read = record {
          drawing = add_place h.drawing n.value;
          fits = fits_place h.drawing _ _ _ _ n.value h.fits (h.bounds.none h.alone);
          holds = subst (λ x. Holds (add_place h.drawing n.value) x pre post action) (sym e)
              (holds_place h.drawing s.marking s.places n.value pre post action (sym h.fits.places) h.holds);
          same = h.same;
          bounds = let b = h.bounds in let n = h.sane in
              record {
                inside = n.1;
                places = let x = b.places in let y = n.0 in omega arith;
                transitions = let x = b.transitions in let y = n.0 in omega arith;
                arcs = let x = b.arcs in let y = n.0 in omega arith;
                none = b.none;
              };
        };
        further = let y = h.sane.0 in omega arith;
      })

  -- a transition
  pub transition_moved : (n : Number) → Ahead t s (Ok (Transition n)) pre post action → (l : List ℕ) → l ≡ noted action s.transitions n.value → (r : State)
      → r ≡ transition_state s n.at → Further t s r pre post l
  unfolding Sane Alone turned
  transition_moved n h l e r q =
      subst (λ x. Further t s x pre post l) (sym q)
      (record {
        read = record {
          drawing = add_transition h.drawing n.value;
          fits = fits_transition h.drawing _ _ _ _ n.value h.fits;
          holds = subst (λ x. Holds (add_transition h.drawing n.value) s.marking pre post x) (sym e)
              (holds_transition h.drawing s.marking s.transitions n.value pre post action (sym h.fits.transitions) h.holds);
          same = h.same;
          bounds = let b = h.bounds in let n = h.sane in
              record {
                inside = n.1;
                places = let x = b.places in let y = n.0 in omega arith;
                transitions = let x = b.transitions in let y = n.0 in omega arith;
                arcs = let x = b.arcs in let y = n.0 in omega arith;
                none = λ z. absurd (omega arith);
              };
        };
        further = let y = h.sane.0 in omega arith;
      })

  -- the end, and a stop
  pub end_moved : Ahead t s (Ok End) pre post action → ReadAll t s.places s.transitions s.marking pre post action
  unfolding turned
  end_moved h = record { drawing = h.drawing; places = h.fits.places; transitions = h.fits.transitions; holds = h.holds; same = h.same }

  pub stop_moved : (e : Left) → Ahead t s (Err e) pre post action → (b : Reading) → b ≡ reading_of s
      → ReadPart t e.at b.places b.transitions b.marking pre post action
  unfolding turned
  stop_moved e h b q =
      subst (λ x. ReadPart t e.at x.places x.transitions x.marking pre post action) (sym q)
      (record { drawing = h.drawing; places = h.fits.places; transitions = h.fits.transitions; holds = h.holds; same = h.same })

  -- the turn ahead of a state
  pub ahead : (r : Result Turn Left) → Read t s pre post action
      → Seen t s.at (s.at + 1) s.places s.transitions s.arcs (arc_of s.least) turn r → Ahead t s r pre post action
  ahead r h n =
      record {
        drawing = h.drawing;
        fits = h.fits;
        holds = h.holds;
        same = h.same ∙ n.same h.drawing h.fits;
        sane = n.sane;
        alone = n.alone;
        bounds = h.bounds;
      }

  -- the turn that it is
  pub ahead_of : (r q : Turn) → r ≡ q → Read t s pre post action
      → Seen t s.at (s.at + 1) s.places s.transitions s.arcs (arc_of s.least) turn (Ok r) → Ahead t s (Ok q) pre post action
  ahead_of r q e h n = subst (λ x. Ahead t s (Ok x) pre post action) e (ahead (Ok r) h n)

  -- an action fits its table, and an arc has a next one
  pub action_small : (n : Number) → Ahead t s (Ok (Transition n)) pre post action → n.value ≤ 131071
  unfolding Sane
  action_small n h = h.sane.2

  abbrev Named : ArcRead → Type 0
  Named a =
      (a.arc.place < s.places) × (a.arc.transition < s.transitions) × (s.transitions ≤ s.at) × (s.arcs ≤ s.at) × (s.at + 1 ≤ a.at) × (a.at ≤ length t)

  pub arc_named : (a : ArcRead) → Ahead t s (Ok (Join a)) pre post action → Named a
  unfolding Sane
  arc_named a h = let n = h.sane in (n.2, n.3, h.bounds.transitions, h.bounds.arcs, n.0, n.1)

-- an arc
module _ (t : List ℕ) (s : State) (before later : Entries) where
  pub arc_moved : (a : ArcRead) → Ahead t s (Ok (Join a)) before.pre before.post before.action → (r : State) → Put s a r before later
      → Further t s r later.pre later.post later.action
  unfolding Sane turned
  arc_moved a h r q =
      subst (λ x. Further t s x later.pre later.post later.action) (sym q.state)
      (record {
        read = record {
          drawing = add_arc h.drawing (arc_of a.arc);
          fits = subst (λ x. Fits (add_arc h.drawing (arc_of a.arc)) s.places s.transitions (s.arcs + 1) x) (sym q.comes)
              (fits_arc h.drawing _ _ _ _ (arc_of a.arc) h.fits);
          holds = rw (q.into, q.out, q.rest)
              (holds_arc h.drawing s.marking (arc_of a.arc) before.pre before.post before.action (let p = h.sane.2 in let z = h.fits.places in omega arith) h.holds);
          same = h.same;
          bounds = let b = h.bounds in let y = h.sane in
              record {
                inside = y.1;
                places = let x = b.places in let w = y.0 in omega arith;
                transitions = let x = b.transitions in let w = y.0 in omega arith;
                arcs = let x = b.arcs in let w = y.0 in omega arith;
                none = λ z. let w = y.3 in absurd (omega arith);
              };
        };
        further = let w = h.sane.0 in omega arith;
      })
