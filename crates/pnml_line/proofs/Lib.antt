-- The laws that the proofs of `pnml_line` and of the program cite.
pub mod Answers
pub mod Lines
