-- The definitions that the contracts of `category` cite.
pub mod Records
pub mod Faults
pub mod Labels
pub mod Earlier
pub mod Loader
pub mod Serving
