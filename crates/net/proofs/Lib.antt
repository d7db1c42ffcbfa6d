-- The laws of nets that the other crates' proofs cite.
pub mod Loops
pub mod Answers
pub mod Loaded
pub mod Why
pub mod Independence
pub mod Runs
pub mod Swaps
pub mod Dependent
pub mod Urgent
