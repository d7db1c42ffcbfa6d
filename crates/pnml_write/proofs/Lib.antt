-- The laws that the proofs of `pnml_write` cite.
pub mod Answers
