-- `pnml_turn::advance` meets its contract. Assumes nothing.
use native.Mathlib.Omega.{arith}
use Rattle.pnml_turn.proofs.Steps.{place_moved, transition_moved, arc_moved, end_moved, stop_moved, ahead, ahead_of, action_small, arc_named}
use Rattle.pnml_turn.proofs.advance.Goals as goal

pub returns-in-Err : goal.returns-in-Err
returns-in-Err c = stop_moved _ _ _ _ _ _ (ahead _ _ _ _ _ _ c.requires c.in-Err.ensures) _ c.reading.ensures

pub overflow_cast-transition : goal.overflow_cast-transition
overflow_cast-transition c =
    let z = action_small _ _ _ _ _ _ (ahead_of _ _ _ _ _ _ _ c.in-Transition.is c.requires c.in-Ok.ensures) in omega arith

pub put_arc-requires : goal.put_arc-requires
put_arc-requires c =
    let z = arc_named _ _ _ _ _ _ (ahead_of _ _ _ _ _ _ _ c.in-Join.is c.requires c.in-Ok.ensures) in (z.0, omega (arith, z), omega (arith, z))

pub returns-in-Place : goal.returns-in-Place
returns-in-Place c =
    place_moved _ _ _ _ _ _ (ahead_of _ _ _ _ _ _ _ c.in-Place.is c.requires c.in-Ok.ensures) _ c.mark-marking.ensures _ c.place.ensures

pub returns-in-Transition : goal.returns-in-Transition
returns-in-Transition c =
    transition_moved _ _ _ _ _ _ (ahead_of _ _ _ _ _ _ _ c.in-Transition.is c.requires c.in-Ok.ensures) _ c.note.ensures _ c.transition.ensures

pub returns-in-Join : goal.returns-in-Join
returns-in-Join c =
    arc_moved _ _ c.args.kept.now _ _ (ahead_of _ _ _ _ _ _ _ c.in-Join.is c.requires c.in-Ok.ensures) _ c.put_arc.ensures

pub returns-in-End : goal.returns-in-End
returns-in-End c = end_moved _ _ _ _ _ (ahead_of _ _ _ _ _ _ _ c.in-End.is c.requires c.in-Ok.ensures)
