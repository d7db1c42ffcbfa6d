-- The laws of tables that the other crates' proofs cite.
pub mod Tests
pub mod Numbers
pub mod Entries
pub mod Below
pub mod Counts
pub mod Scans
pub mod Parts
pub mod Laid
pub mod Checks
