-- `sample_pnml::put_elements` meets its contract. The invariant: i elements are put. Assumes nothing.
use Rattle.sample_pnml.specs.Built.{Put, elements}
use Rattle.sample_pnml.proofs.put_elements.Given as goal

abbrev pub invariant-loop-i : goal.invariant-loop-i
invariant-loop-i l = Put l.initial.room l.room l.at (elements l.opening l.closing l.i) l.next
