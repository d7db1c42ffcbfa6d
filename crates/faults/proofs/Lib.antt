-- Laws of the faults of a node.
pub mod Judging
