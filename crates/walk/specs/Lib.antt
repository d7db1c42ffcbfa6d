-- The definitions that the contracts of `walk` cite, and the calls of a walk in sequence.
pub mod State
pub mod Calls
pub mod History
pub mod Swaps
