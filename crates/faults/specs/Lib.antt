-- The faults of a node.
pub mod Faults
pub mod Serving
