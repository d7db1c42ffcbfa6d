-- The laws that the proofs of `sample_pnml` cite.
mod Puts
mod Answers
