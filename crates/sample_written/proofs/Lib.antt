-- The laws that the proofs of `sample_written` cite.
mod Building
mod Rooms
