-- The answer that the code gives.
pub mod Result
