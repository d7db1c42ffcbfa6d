-- The laws that the proofs of `compact` cite.
pub mod Records
pub mod Marks
pub mod Counting
pub mod Writing
pub mod Answers
pub mod Checked
