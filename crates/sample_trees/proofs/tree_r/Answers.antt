-- `sample_trees::tree_r` meets its contract. Assumes nothing.
use Rattle.std.proofs.Common.{◌≡◌, sym, ◌∙◌, length, arith, rules}
use Rattle.sample_trees.proofs.Writing.{nodes_start, nodes_more, nodes_all}
use Rattle.sample_trees.proofs.tree_r.Goals as goal

pub loop-k-init : goal.loop-k-init
loop-k-init c = nodes_start

pub loop-k-preserved : goal.loop-k-preserved
loop-k-preserved c =
    let length-row : length c.node_r.result ≡ 40 = search rules in
    nodes_more _ _ _ _ c.loop-k-test.true c.put_bytes.ensures c.node_r.ensures length-row c.loop-k.invariant

pub returns : goal.returns
returns c = sym (nodes_all _ _ (omega arith)) ∙ c.loop-k.invariant
