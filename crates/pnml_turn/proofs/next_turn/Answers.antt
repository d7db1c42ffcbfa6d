-- `pnml_turn::next_turn` meets its contract. Assumes nothing.
use Rattle.pnml_turn.proofs.Openings.{turn_end, turn_stops, turn_opens}
use Rattle.pnml_turn.proofs.next_turn.Goals as goal

pub returns-then-text-start : goal.returns-then-text-start
returns-then-text-start c = turn_end _ _ _ _ _ _ _ c.blank-start.ensures c.if-text-start.true

pub returns-then-text-start-ne60 : goal.returns-then-text-start-ne60
returns-then-text-start-ne60 c = turn_stops _ _ _ _ _ _ _ c.blank-start.ensures c.if-text-start.false c.if-text-start-ne60.true

pub returns : goal.returns
returns c = turn_opens _ _ _ _ _ _ _ c.blank-start.ensures _ c.if-text-start.false c.if-text-start-ne60.false c.opened_turn.ensures
