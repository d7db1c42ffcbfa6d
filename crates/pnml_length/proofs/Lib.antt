-- The laws that the proofs of `pnml_length` cite.
pub mod Sums
