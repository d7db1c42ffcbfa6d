-- The definitions that the contracts of `files` cite.
pub mod Reading
