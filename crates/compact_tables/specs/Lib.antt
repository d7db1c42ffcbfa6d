-- The tables without dead formula records, the answer of writing them, and what they are worth.
pub mod Reached
pub mod Tables
pub mod Answer
pub mod Theorem
