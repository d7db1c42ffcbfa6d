-- Laws of the tables without dead formula records, and the theorem.
pub mod Reaching
pub mod Children
pub mod Formulas
pub mod Nodes
pub mod Clear
pub mod Again
pub mod Worth
