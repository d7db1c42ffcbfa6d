-- The laws that the proofs of `sample_nets` cite.
mod Decoded
