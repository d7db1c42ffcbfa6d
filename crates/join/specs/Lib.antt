-- The definitions that the contracts of `join` cite.
pub mod Joint
pub mod Answer
pub mod Result
pub mod Serving
pub mod Theorem
