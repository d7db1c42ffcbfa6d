-- `sample_trees::node_r` meets its contract. Each arm is a node of the list. Assumes nothing.
use mathlib.Core.Path.{sym, ap, ◌∙◌}
use Rattle.sample_bytes.specs.Bytes.{bytes}
use Rattle.sample_trees.specs.Tables.{nodes_r, node_r}
use Rattle.sample_trees.proofs.Writing.{no_node}
use Rattle.sample_trees.proofs.node_r.Goals as goal

pub returns-in-0 : goal.returns-in-0
unfolding bytes nodes_r node_r
returns-in-0 c = c.node.ensures ∙ sym (ap node_r c.in-0.is)

pub returns-in-1 : goal.returns-in-1
unfolding bytes nodes_r node_r
returns-in-1 c = c.node-in-1.ensures ∙ sym (ap node_r c.in-1.is)

pub returns-in-2 : goal.returns-in-2
unfolding bytes nodes_r node_r
returns-in-2 c = c.node-in-2.ensures ∙ sym (ap node_r c.in-2.is)

pub returns-in-3 : goal.returns-in-3
unfolding bytes nodes_r node_r
returns-in-3 c = c.node-in-3.ensures ∙ sym (ap node_r c.in-3.is)

pub returns-in-4 : goal.returns-in-4
unfolding bytes nodes_r node_r
returns-in-4 c = c.node-in-4.ensures ∙ sym (ap node_r c.in-4.is)

pub returns-in-5 : goal.returns-in-5
unfolding bytes nodes_r node_r
returns-in-5 c = c.node-in-5.ensures ∙ sym (ap node_r c.in-5.is)

pub returns-in-6 : goal.returns-in-6
unfolding bytes nodes_r node_r
returns-in-6 c = c.node-in-6.ensures ∙ sym (ap node_r c.in-6.is)

pub returns-in-7 : goal.returns-in-7
unfolding bytes nodes_r node_r
returns-in-7 c = c.node-in-7.ensures ∙ sym (ap node_r c.in-7.is)

pub returns-in-8 : goal.returns-in-8
unfolding bytes nodes_r node_r
returns-in-8 c = c.node-in-8.ensures ∙ sym (ap node_r c.in-8.is)

pub returns-in-9 : goal.returns-in-9
unfolding bytes nodes_r node_r
returns-in-9 c = c.node-in-9.ensures ∙ sym (ap node_r c.in-9.is)

pub returns-in-10 : goal.returns-in-10
unfolding bytes nodes_r node_r
returns-in-10 c = c.node-in-10.ensures ∙ sym (ap node_r c.in-10.is)

pub returns-in-11 : goal.returns-in-11
unfolding bytes nodes_r node_r
returns-in-11 c = c.node-in-11.ensures ∙ sym (ap node_r c.in-11.is)

pub returns-in-12 : goal.returns-in-12
unfolding bytes nodes_r node_r
returns-in-12 c = c.node-in-12.ensures ∙ sym (ap node_r c.in-12.is)

pub returns-in-13 : goal.returns-in-13
unfolding bytes nodes_r node_r
returns-in-13 c = c.node-in-13.ensures ∙ sym (ap node_r c.in-13.is)

pub returns-in-14 : goal.returns-in-14
unfolding bytes nodes_r node_r
returns-in-14 c = c.node-in-14.ensures ∙ sym (ap node_r c.in-14.is)

pub returns-in-15 : goal.returns-in-15
unfolding bytes nodes_r node_r
returns-in-15 c = c.node-in-15.ensures ∙ sym (ap node_r c.in-15.is)

pub returns-in-16 : goal.returns-in-16
unfolding bytes nodes_r node_r
returns-in-16 c = c.node-in-16.ensures ∙ sym (ap node_r c.in-16.is)

pub returns-in-17 : goal.returns-in-17
unfolding bytes nodes_r node_r
returns-in-17 c = c.node-in-17.ensures ∙ sym (ap node_r c.in-17.is)

pub returns-in-18 : goal.returns-in-18
unfolding bytes nodes_r node_r
returns-in-18 c = c.node-in-18.ensures ∙ sym (ap node_r c.in-18.is)

pub returns-in-19 : goal.returns-in-19
unfolding bytes nodes_r node_r
returns-in-19 c = c.node-in-19.ensures ∙ sym (ap node_r c.in-19.is)

pub returns-in-20 : goal.returns-in-20
unfolding bytes nodes_r node_r
returns-in-20 c = c.node-in-20.ensures ∙ sym (ap node_r c.in-20.is)

pub returns-in-21 : goal.returns-in-21
unfolding bytes nodes_r node_r
returns-in-21 c = c.node-in-21.ensures ∙ sym (ap node_r c.in-21.is)

pub returns-in-22 : goal.returns-in-22
unfolding bytes nodes_r node_r
returns-in-22 c = c.node-in-22.ensures ∙ sym (ap node_r c.in-22.is)

pub returns-in_default : goal.returns-in_default
returns-in_default c = sym (no_node _ c.in_default.in_default-own.rest)
