-- The definitions that the contracts of `tables` cite.
pub mod Bytes
pub mod Lists
pub mod Below
pub mod Sizes
pub mod Faults
pub mod Checks
