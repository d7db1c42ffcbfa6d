-- `compact::put_nodes` meets its contract. The invariant: the first k nodes are stored. Assumes nothing.
use borrow.Author.Rules.{rules}
use Rattle.tables.proofs.Counts.{record_inside}
use Rattle.nodes.specs.Nodes.{nodes}
use Rattle.compact.proofs.Writing.{put_none, formula_few, put_room, put_next, put_all}
use Rattle.compact.proofs.put_nodes.Goals as goal

pub loop-k-init : goal.loop-k-init
loop-k-init c = put_none _ _ _

pub node_at-n-requires : goal.node_at-n-requires
node_at-n-requires c = record_inside 40 _ c.loop-k.k c.loop-k-test.true

pub bounds-numbers-s : goal.bounds-numbers-s
unfolding nodes
bounds-numbers-s c =
    formula_few _ c.loop-k.k c.loop-k-test.true c.node_at-n.ensures c.requires.0

pub offset_bounds-numbers-s : goal.offset_bounds-numbers-s
unfolding nodes
offset_bounds-numbers-s c =
    let h = formula_few _ c.loop-k.k c.loop-k-test.true c.node_at-n.ensures c.requires.0 in
    search rules

pub put_node-requires : goal.put_node-requires
unfolding nodes
put_node-requires c =
    put_room _ _ c.loop-k.invariant c.loop-k-test.true c.requires.1

pub loop-k-preserved : goal.loop-k-preserved
unfolding nodes
loop-k-preserved c =
    put_next _ _ c.loop-k.invariant c.loop-k-test.true c.node_at-n.ensures c.put_node.ensures

pub shape_of-room : goal.shape_of-room
shape_of-room c = c.loop-k.invariant.laid.size

pub returns : goal.returns
unfolding nodes
returns c = put_all _ _ c.loop-k.invariant c.loop-k-test.false
