-- The laws that the proof of `tree_put` cites.
pub mod Roots
pub mod Shapes
pub mod Places
pub mod Turns
pub mod Searches
pub mod Nodes
pub mod Ways
