-- `pnml_length::text_length` meets its contract. Assumes nothing.
use native.Mathlib.Nat.{div-mul-le_self}
use native.Mathlib.Omega.{arith}
use Rattle.net.specs.Table.{transitions}
use Rattle.pnml_put.proofs.Texts.{count_most}
use Rattle.pnml_length.proofs.Sums.{whole_length}
use Rattle.pnml_length.proofs.text_length.Goals as goal

pub transitions_length-b-requires : goal.transitions_length-b-requires
unfolding transitions
transitions_length-b-requires c = (count_most _ c.requires.1, div-mul-le_self _ 24)

pub arcs_length-c-requires : goal.arcs_length-c-requires
unfolding transitions
arcs_length-c-requires c = (c.requires.0, count_most _ c.requires.1, div-mul-le_self _ 24)

pub overflow_add-result-2 : goal.overflow_add-result-2
unfolding transitions
overflow_add-result-2 c =
    omega
    (arith, count_most _ c.requires.1, c.requires.0, c.places_length-a.ensures.bound, c.transitions_length-b.ensures.bound, c.arcs_length-c.ensures.bound)

pub overflow_add-result-3 : goal.overflow_add-result-3
unfolding transitions
overflow_add-result-3 c =
    omega
    (arith, count_most _ c.requires.1, c.requires.0, c.places_length-a.ensures.bound, c.transitions_length-b.ensures.bound, c.arcs_length-c.ensures.bound)

pub returns : goal.returns
unfolding transitions
returns c =
    whole_length _ _ _ _ _ _ c.requires.1 c.places_length-a.ensures.exact c.transitions_length-b.ensures.exact c.arcs_length-c.ensures.exact
