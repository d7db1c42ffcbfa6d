-- The children of a node.
pub mod Family
pub mod Serving
