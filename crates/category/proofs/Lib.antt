-- The laws of category files.
pub mod Scan
pub mod Texts
pub mod Ascent
pub mod Search
pub mod Sources
pub mod Answers
pub mod Faultless
pub mod Places
pub mod Earlier
pub mod Loader
