-- The laws of truth and size that the proofs of `tree_size` cite.
pub mod Readings
pub mod Records
pub mod Flags
pub mod Sums
pub mod Memory
pub mod Operators
pub mod Turns
