-- The condition and the children of a rule as they were defined before document 02's F-4: by Next where today they go by the urgent transitions.
-- No contract cites this. Assumes nothing.
use Rattle.std.specs.Prelude.{ℕ, Bool, List, map}
use Rattle.net.specs.declared.Net.{Net}
use Rattle.net.specs.Step.{enabled, fired, next}
use Rattle.pctl.specs.Table.{left_at, right_at}
use Rattle.tableau.specs.declared.Sequent.{Sequent}
use Rattle.tableau.specs.declared.Row.{Row}
use Rattle.tableau.specs.Rules.{Choice, Source, trail_met, choice_met, named, met_by, clean, same_after, next_of, next_named, children_of}

unfoldable pub earlier_condition : Net → List ℕ → Row → Sequent → Choice → (on : Bool) → Bool
unfolding named met_by
earlier_condition N F R s c on =
    met_by R.asks s (trail_met R.asks.trail on) (next N s.marking)
    (choice_met R.asks.choice (enabled N s.marking c.transition) (named N F s c.transition))

unfoldable pub earlier_source_at : Net → List ℕ → (side : ℕ) → Sequent → Choice → Source
earlier_source_at N F side s c =
    record {
      side = side;
      left = left_at F s.formula;
      right = right_at F s.formula;
      sequent = s;
      after = same_after N s c.transition;
      urgents = next N s.marking;
      sames = map (same_after N s) (next_of N s);
      lefts = map (λ t. clean side (left_at F s.formula) (fired N s.marking t)) (next_named N F s);
    }

unfoldable pub earlier_children : Net → List ℕ → Row → Sequent → Choice → List Sequent
unfolding children_of earlier_source_at
earlier_children N F R s c = children_of R.children (earlier_source_at N F R.side s c)
