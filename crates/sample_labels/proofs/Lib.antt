-- The laws that the proofs of `sample_labels` cite.
mod Filling
