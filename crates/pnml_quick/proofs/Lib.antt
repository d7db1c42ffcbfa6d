-- The laws that the proofs of `pnml_quick` cite.
pub mod Words
pub mod Numbers
