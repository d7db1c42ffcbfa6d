-- The definitions that the contracts of `sample_trees` cite.
pub mod Tables
