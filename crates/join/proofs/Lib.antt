-- The laws of two nets side by side.
pub mod Records
pub mod Fitting
pub mod Answers
pub mod Beside
pub mod Reading
pub mod Halves
pub mod Steps
pub mod Worth
