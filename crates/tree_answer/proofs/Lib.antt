-- Laws of the answer, and the theorem.
pub mod Truth
pub mod Right
pub mod Standing
pub mod Clear
pub mod Accepted
