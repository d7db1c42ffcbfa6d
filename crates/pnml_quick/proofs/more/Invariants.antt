-- `pnml_quick::more` meets its contract. The invariant: the bytes up to k are those of v. Assumes nothing.
use Rattle.pnml_quick.specs.Serving.{Begun}
use Rattle.pnml_quick.proofs.more.Given as goal

abbrev pub invariant-loop-k : goal.invariant-loop-k
invariant-loop-k l = Begun l.text l.at l.k l.v
