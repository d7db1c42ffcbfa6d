-- `sample_trees::tree_r` meets its contract. The invariant: the nodes from k on, stored from their place on, give the tree. Assumes nothing.
use Rattle.std.proofs.Common.{◌≡◌, ◌*◌, drop}
use Rattle.std.proofs.lemmas.List.Edits.{sets}
use Rattle.sample_trees.specs.Tables.{joined, nodes_r, tree_r}
use Rattle.sample_trees.proofs.tree_r.Given as goal

abbrev pub invariant-loop-k : goal.invariant-loop-k
invariant-loop-k l = sets l.tree (l.k * 40) (joined (drop l.k nodes_r)) ≡ tree_r
