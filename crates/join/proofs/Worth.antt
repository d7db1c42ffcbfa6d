-- Two nets that are joined stand side by side. Assumes nothing.
use mathlib.Core.Path.{◌≡◌, refl, sym}
use mathlib.Core.Bool.{Bool, true, false, cond}
use lib.Dec.{eqb}
use borrow.Author.Tests.{eqb-true}
use Rattle.tables.proofs.Tests.{if_true}
use Rattle.tables.proofs.Scans.{both_passed}
use Rattle.net.specs.Table.{net_of}
use Rattle.net.specs.Answer.{Fault, no_fault, fault, or_else}
use Rattle.net.proofs.Loaded.{faultless}
use Rattle.join.specs.Joint.{Marked, joint}
use Rattle.join.specs.Answer.{granted, refuse, half_fault, size_fault, room_fault, join_fault, join_answer}
use Rattle.join.specs.Theorem.{SideBySide, JoinedStand}
use Rattle.join.proofs.Fitting.{size_test}
use Rattle.join.proofs.Beside.{beside_low, beside_high, beside_within, beside_parts}
use Rattle.join.proofs.Halves.{joint_loads, action_first, action_second, optional_first, optional_second}
use Rattle.join.proofs.Steps as steps

-- halves in which loading finds no fault, and whose places and transitions add up to at most 64
pub stands : (f s : Marked) → half_fault f ≡ no_fault → half_fault s ≡ no_fault → size_fault f s ≡ no_fault → SideBySide f s
unfolding net_of
stands f s p q e =
    record {
      loads = joint_loads f s p q e;
      count = steps.count f s p q e;
      first_action = action_first f s p q e;
      second_action = action_second f s p q e;
      first_optional = optional_first f s p q e;
      second_optional = optional_second f s p q e;
      pair = beside_within f.places s.places;
      parts = beside_parts f.places s.places;
      first_places = beside_low f.places;
      second_places = beside_high f.places;
      first_enabled = steps.first_enabled f s p q e;
      second_enabled = steps.second_enabled f s p q e;
      first_fired = steps.first_fired f s p q e;
      second_fired = steps.second_fired f s p q e;
      apart = steps.apart f s p q e;
      first_conflict = steps.first_conflict f s p q e;
      second_conflict = steps.second_conflict f s p q e;
      first_after = λ a b ts w h. steps.first_after f s p q e a b w ts h;
      second_after = λ a b us w. steps.second_after f s p q e a b w us;
      each_after = λ a b ts w. steps.each_after f s p q e ts a b w;
    }

-- ---- granted

half_clear : (h : Marked) → (half_fault h).number ≡ 0 → half_fault h ≡ no_fault
half_clear h e = sym (faultless h.places h.marking h.bytes e)

size_clear : (f s : Marked) → (size_fault f s).number ≡ 0 → size_fault f s ≡ no_fault
unfolding size_fault
size_clear f s h = if_true _ no_fault (fault 15 0) (size_test f s h)

-- nets that are joined stand side by side
pub worth : JoinedStand
unfolding join_answer join_fault
worth f s room h =
    let a = both_passed (half_fault f) (or_else (half_fault s) (or_else (size_fault f s) (room_fault f s room))) none in
    let b = both_passed (half_fault s) (or_else (size_fault f s) (room_fault f s room)) a.1 in
    let c = both_passed (size_fault f s) (room_fault f s room) b.1 in
    stands f s (half_clear f a.0) (half_clear s b.0) (size_clear f s c.0)
  where
    by : (x : Fault) (y : Bool) → eqb x.number 0 ≡ y → (cond y (granted (joint f s) room) (refuse x room)).found.number ≡ 0 → x.number ≡ 0
    by x true z h = eqb-true x.number 0 z
    by x false z h = h

    none : (join_fault f s room).number ≡ 0
    none = by (join_fault f s room) (eqb (join_fault f s room).number 0) refl h
