-- The definitions that the contracts of `sample_walks` cite.
pub mod Samples
