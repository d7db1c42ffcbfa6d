-- `sample_pnml::put_spaced` meets its contract. The invariant: i bytes are put. Assumes nothing.
use Rattle.sample_pnml.specs.Built.{Put, spaced}
use Rattle.sample_pnml.proofs.put_spaced.Given as goal

abbrev pub invariant-loop-i : goal.invariant-loop-i
invariant-loop-i l = Put l.initial.room l.room 0 (spaced l.text l.i) l.at
