-- `pnml_turn::opened_turn` meets its contract. Assumes nothing.
use native.Mathlib.Omega.{arith}
use Rattle.pnml_turn.proofs.Openings.{opened_end, opened_place, opened_transition, opened_arc, opened_closing, opened_other, arc_found}
use Rattle.pnml_turn.proofs.opened_turn.Goals as goal

pub returns-then-text-at : goal.returns-then-text-at
returns-then-text-at c = opened_end _ _ _ _ _ _ c.if-text-at.true

pub returns-then-b-s : goal.returns-then-b-s
returns-then-b-s c = opened_place _ _ _ _ _ _ _ c.if-text-at.false c.if-b-s.true c.place_turn.ensures

pub returns-then-b-s-2 : goal.returns-then-b-s-2
returns-then-b-s-2 c =
    opened_transition _ _ _ _ _ _ _ c.if-text-at.false c.if-b-s.false c.if-b-s-2.true c.transition_turn.ensures

pub arc_turn-requires : goal.arc_turn-requires
arc_turn-requires c =
    let a = c.args in
    (omega arith, arc_found a.text.now a.at _ _ _ _ c.arc_open.ensures c.if-b-arc_open.true)

pub returns-then-b-arc_open : goal.returns-then-b-arc_open
returns-then-b-arc_open c =
    opened_arc _ _ _ _ _ _ _ c.if-text-at.false c.if-b-s.false
    c.if-b-s-2.false _ c.arc_open.ensures c.if-b-arc_open.true c.arc_turn.ensures

pub returns-then-b-eq47 : goal.returns-then-b-eq47
returns-then-b-eq47 c =
    opened_closing _ _ _ _ _ _ _ c.if-text-at.false c.if-b-s.false
    c.if-b-s-2.false _ c.arc_open.ensures c.if-b-arc_open.false c.if-b-eq47.true
    c.closing_turn.ensures

pub returns : goal.returns
returns c =
    opened_other _ _ _ _ _ _ c.if-text-at.false c.if-b-s.false
    c.if-b-s-2.false _ c.arc_open.ensures c.if-b-arc_open.false c.if-b-eq47.false
