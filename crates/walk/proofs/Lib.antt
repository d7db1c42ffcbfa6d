-- The laws of the walk that the other crates' proofs cite.
pub mod Walks
pub mod Conditions
pub mod Histories
pub mod Swaps
pub mod Room
pub mod Ranges
