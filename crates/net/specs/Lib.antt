-- The definitions that the contracts of `net` cite.
pub mod Step
pub mod Table
pub mod Answer
pub mod Why
pub mod Sequence
pub mod Swaps
