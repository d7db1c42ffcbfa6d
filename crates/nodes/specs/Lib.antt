-- The records of a tree, its links and trails.
pub mod Nodes
pub mod Links
pub mod Trails
pub mod Written
