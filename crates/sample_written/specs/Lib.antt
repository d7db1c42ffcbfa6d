-- The definitions that the contracts of `sample_written` cite.
pub mod Tables
pub mod Told
