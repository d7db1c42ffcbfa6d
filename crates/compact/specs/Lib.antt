-- The definitions that the contracts of `compact` cite.
pub mod Result
pub mod Serving
