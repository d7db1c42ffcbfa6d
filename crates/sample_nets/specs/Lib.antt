-- The definitions that the contracts of `sample_nets` cite.
pub mod Tables
