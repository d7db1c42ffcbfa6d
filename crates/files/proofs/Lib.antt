-- The laws of `files` for other proofs.
pub mod Held
