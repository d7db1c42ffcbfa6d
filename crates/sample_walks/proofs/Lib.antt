-- The laws that the proofs of `sample_walks` cite.
mod Calling
