-- Laws of the records, links and trails.
pub mod Reading
pub mod Written
pub mod Linking
pub mod Walking
