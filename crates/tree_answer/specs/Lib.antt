-- The answer of writing a tree, and what it is worth.
pub mod Answer
pub mod Theorem
