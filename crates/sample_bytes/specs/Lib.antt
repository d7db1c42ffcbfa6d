-- The definitions that the contracts of `sample_bytes` cite.
pub mod Bytes
pub mod Rooms
