-- The definitions that the contracts of `sample_pnml` cite.
pub mod Built
pub mod Told
