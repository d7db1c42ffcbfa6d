-- The laws of sets that the other crates' proofs cite.
pub mod Membership
pub mod Relations
pub mod Counting
pub mod Shifts
