-- The laws that the proofs of `sample_bytes` cite.
mod Stores
mod Rooms
