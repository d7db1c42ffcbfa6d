-- The starred samples of document 01.
pub mod Starred
