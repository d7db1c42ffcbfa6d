-- The laws that serve the converter.
pub mod Lowest
pub mod Prefix
pub mod Bounds
pub mod Zeros
pub mod Written
pub mod Answers
