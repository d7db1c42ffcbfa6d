-- The laws of category files with borrowed texts.
pub mod Valid
pub mod Blocks
pub mod Same
pub mod Bytes
pub mod Reading
pub mod Texts
pub mod Unborrowed
pub mod Granted
pub mod Worth
