-- Reading what was written.
pub mod Back
