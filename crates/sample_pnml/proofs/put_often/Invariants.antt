-- `sample_pnml::put_often` meets its contract. The invariant: the bytes are put as often as the loop has run. Assumes nothing.
use Rattle.sample_pnml.specs.Built.{Put, often}
use Rattle.sample_pnml.proofs.put_often.Given as goal

abbrev pub invariant-loop : goal.invariant-loop
invariant-loop l = Put l.initial.table l.table 0 (often l.part l.counter) l.at
