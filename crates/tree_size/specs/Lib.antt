-- The definitions that the contracts of `tree_size` cite.
pub mod Serving
