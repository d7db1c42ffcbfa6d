-- Laws on what the reader has read so far.
pub mod State
pub mod Kept
